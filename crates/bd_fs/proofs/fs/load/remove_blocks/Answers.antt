use Rattle.std.proofs.Common.{◌≡◌, ◌<◌, ◌&&◌, ℕ, List, ap, refl, sym, subst, ◌∙◌}
use Rattle.std.specs.FinSet as set
use Rattle.std.proofs.lemmas.List.{get_or_read, take_all}
use Rattle.bd_extents.specs.FreeBlocks.{FreeBlocks}
use Rattle.bd_fs.specs.Kept.{is_none_of}
use Rattle.bd_fs.proofs.Loading.{and_true, removed-more}
use Rattle.bd_fs.proofs.fs.load.remove_blocks.Goals as goal

pub loop-block-init : goal.loop-block-init
loop-block-init c = (refl, λ b. sym (and_true (set.contains c.args.free.now.free b)))

pub remove-requires : goal.remove-requires
remove-requires c =
    rw c.loop-block.invariant.0
    (subst (λ (x : ℕ). x < c.args.free.now.total) (sym c.block-item.is)
    (c.requires c.loop-block.block-index c.block-item.result c.loop-block-test.true))

pub loop-block-preserved : goal.loop-block-preserved
loop-block-preserved c =
    let i : ℕ = c.loop-block.block-index in
    let read = get_or_read c.args.blocks.now i c.block-item.result c.loop-block-test.true c.block-item.is 0 in (
      ap (λ (s : FreeBlocks). s.total) c.remove.ensures ∙ c.loop-block.invariant.0,
      λ b.
          ap (λ (s : FreeBlocks). set.contains s.free b) c.remove.ensures
          ∙ removed-more c.loop-block.free.free (set.contains c.args.free.now.free) c.args.blocks.now i c.block-item.result
          c.loop-block-test.true read c.loop-block.invariant.1 b,
    )

pub returns : goal.returns
returns c =
    let all = take_all c.loop-block.block-index c.args.blocks.now c.loop-block-test.false in
    record {
      total = c.loop-block.invariant.0;
      free = λ b.
          c.loop-block.invariant.1 b
          ∙ ap (λ (bs : List ℕ). set.contains c.args.free.now.free b && is_none_of bs b) all;
    }
