use Rattle.std.proofs.Common.{◌≡◌, ◌<◌, ◌↔◌, ◌⊎◌, ℕ, length, subst, sym, ◌∙◌, arith, below_more}
use Rattle.std.proofs.lemmas.Bool.{false≢true}
use Rattle.bd_base.specs.declared.volume.Extent.{Extent}
use Rattle.bd_image.specs.Layout.{extent_count}
use Rattle.bd_image.specs.Rules.{IsExtent}
use Rattle.bd_image.specs.Sharing.{IsInExtent, IsTakenIn, SharesEarlier}
use Rattle.bd_image.proofs.Sharing.{marks_end, marks_more, shares_none}
use Rattle.bd_image.proofs.reader.sharing.first_shared.Goals as goal

pub loop-e-preserved : goal.loop-e-preserved
loop-e-preserved c =
    let b = c.args.bytes.now in
    let j = c.args.j in
    let e = c.loop-e.e in
    let here : IsExtent b j e = (c.requires.record, omega arith) in
    let none : ¬ ((x : ℕ) × IsInExtent c.extent_at-extent.result x × IsTakenIn c.loop-e.taken x) =
    λ w. false≢true (sym c.if-is_any_taken.false ∙ c.is_any_taken.ensures.1 w) in
    let None : Extent → Type 0 = λ g. ¬ ((x : ℕ) × IsInExtent g x × IsTakenIn c.loop-e.taken x) in
    let Step : Extent → Type 0 =
    λ g. (x : ℕ) → x < length c.loop-e.taken
    → IsTakenIn c.take_blocks.new.taken x ↔ (IsTakenIn c.loop-e.taken x ⊎ IsInExtent g x) in (
      marks_more b c.loop-e.taken c.take_blocks.new.taken j e c.loop-e.invariant.0 here c.take_blocks.auto.taken
          (subst Step c.extent_at-extent.ensures c.take_blocks.ensures),
      below_more (λ d. ¬ SharesEarlier b j d) e c.loop-e.invariant.1
          (shares_none b c.loop-e.taken j e c.loop-e.invariant.0 (c.requires.inside e here.1).end
          (subst None c.extent_at-extent.ensures none)),
    )

pub returns : goal.returns
returns c =
    let b = c.args.bytes.now in
    let j = c.args.j in
    let count : c.loop-e.e ≡ extent_count b j = omega arith in
    record {
      shares = λ d l. c.loop-e.invariant.1 d (omega arith);
      marks = marks_end b c.loop-e.taken j c.loop-e.e c.loop-e.invariant.0 (λ d h. omega (arith, h.1));
    }
