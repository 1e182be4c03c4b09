use Rattle.std.proofs.Common.{ℕ, ◌+◌, Option, sym, ◌∙◌, subst, arith}
use Rattle.std.proofs.lemmas.Bool.{false≢true}
use Rattle.bd_image.specs.Layout.{IsUsed}
use Rattle.bd_image.proofs.Tails.{TailsFound, found_none, found_place, tails_walked}
use Rattle.bd_image.proofs.reader.tails.check_tails.Goals as goal
use Rattle.bd_image.proofs.reader.tails.check_tails.Goals.{then-is_used+in-Some, then-is_used+in_default, else-is_used}

pub loop-j-preserved : goal.loop-j-preserved
loop-j-preserved c =
    let b = c.args.bytes.now in
    let j = c.loop-j.j in
    let Found : Option ℕ → Type 0 = TailsFound b (j + 1) in
    elim c.if-is_used.branch [
      | then-is_used+in-Some w ↦
          let used : IsUsed b j = (omega arith, c.is_used.ensures.0 w.if-is_used.true) in
          subst Found (sym w.least-is)
          (found_place b j w.in-Some.place w.earlier.result c.loop-j.least used w.in-Some.ensures
          w.earlier.ensures c.loop-j.invariant)
      | then-is_used+in_default w ↦ subst Found (sym w.least-is) (found_none b j c.loop-j.least (λ _. w.in_default.ensures) c.loop-j.invariant)
      | else-is_used w ↦
          subst Found (sym w.least-is)
          (found_none b j c.loop-j.least
          (λ used. absurd (false≢true (sym w.if-is_used.false ∙ c.is_used.ensures.1 used.1)))
          c.loop-j.invariant)
    ]

pub returns : goal.returns
returns c = tails_walked c.args.bytes.now c.loop-j.j c.loop-j.least (omega arith) c.loop-j.invariant
