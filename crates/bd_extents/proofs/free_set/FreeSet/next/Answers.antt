use Rattle.std.proofs.Common.{ℕ, ◌≡◌, ◌+◌, ap, subst, sym, ◌∙◌, Some, None, false, arith}
use Rattle.bd_extents.specs.Bitmap.{is_marked}
use Rattle.bd_extents.proofs.Marks.{GivesNext, GivesNext-found, GivesNext-none}
use Rattle.bd_base.proofs.Lists.{wrapped}
use Rattle.bd_extents.proofs.free_set.FreeSet.next.Goals as goal
use Rattle.bd_extents.proofs.free_set.FreeSet.next.Goals.{else-number-from-via-then-number-from+else-has_mark, else-number-from-via-else-number-from}

pub returns-then-has_mark : goal.returns-then-has_mark
returns-then-has_mark c =
    let before : ℕ = c.get-number.result in
    let marked = rw c.deref.ensures.value at c.if-has_mark.ensures in
    let found = GivesNext-found c.args.self.now c.self.inside.total c.self.inside.words.items c.self.inside.first_word before
    c.self.view_is c.self.invariant (omega (arith, c.if-number-from.true)) (sym marked) in
    let is = wrapped c.new.result _ (before + 1) c.new.ensures (omega arith) in
    let was : c.args.after ≡ Some before = c.in_ok-after.was ∙ ap Some (sym c.get-number.ensures.value) in
    let gives = subst (λ r. GivesNext c.args.self.now c.args.after r) (sym is)
    (subst (λ a. GivesNext c.args.self.now a (Some (before + 1))) (sym was) found) in
    record { value = gives.value; free = gives.free; below_total = gives.below_total }

pub returns-else-number-from : goal.returns-else-number-from
returns-else-number-from c =
    let before : ℕ = c.get-number.result in
    let unmarked : is_marked c.self.inside.words.items (before + 1) ≡ false =
    elim c.else-number-from.branch [
      | else-number-from-via-then-number-from+else-has_mark w ↦ sym (rw w.deref.ensures.value at w.if-has_mark.ensures)
      | else-number-from-via-else-number-from w ↦ c.self.invariant.below_total (before + 1) (omega arith)
    ] in
    let none = GivesNext-none c.args.self.now c.self.inside.total c.self.inside.words.items c.self.inside.first_word before
    c.self.view_is c.self.invariant unmarked in
    let was : c.args.after ≡ Some before = c.in_ok-after.was ∙ ap Some (sym c.get-number.ensures.value) in
    let gives = subst (λ a. GivesNext c.args.self.now a None) (sym was) none in
    record { value = gives.value; free = gives.free; below_total = gives.below_total }
