use Rattle.std.proofs.Common.{◌≡◌, ◌↔◌, ◌⊎◌, ℕ, subst, arith}
use Rattle.std.specs.List.{Contains}
use Rattle.bd_base.specs.declared.volume.Extent.{Extent}
use Rattle.bd_image.specs.Checks.{blocks_before}
use Rattle.bd_image.specs.Layout.{extent_count}
use Rattle.bd_image.specs.Sharing.{IsInExtent, IsTakenIn}
use Rattle.bd_image.proofs.Marks.{extent_marked}
use Rattle.bd_image.proofs.reader.bitmap.take_file.Goals as goal

pub loop-e-preserved : goal.loop-e-preserved
loop-e-preserved c = λ x l.
    let b = c.args.bytes.now in
    let j = c.args.j in
    let e = c.loop-e.e in
    let Step : Extent → Type 0 = λ g. IsTakenIn c.take_blocks.new.taken x ↔ (IsTakenIn c.loop-e.taken x ⊎ IsInExtent g x) in
    extent_marked b j e x (IsTakenIn c.args.taken.now x) (IsTakenIn c.loop-e.taken x) (IsTakenIn c.take_blocks.new.taken x)
    (subst Step c.extent_at.ensures (c.take_blocks.ensures x (omega arith))) (c.loop-e.invariant x l)

pub returns : goal.returns
returns c = λ x l.
    let all : c.loop-e.e ≡ extent_count c.args.bytes.now c.args.j = omega arith in
    let Has : ℕ → Type 0 = λ n. IsTakenIn c.loop-e.taken x ↔ (IsTakenIn c.args.taken.now x ⊎ Contains (blocks_before c.args.bytes.now c.args.j n) x) in
    subst Has all (c.loop-e.invariant x l)
