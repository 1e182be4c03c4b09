use Rattle.std.proofs.Common.{length, sym, ap, subst, arith}
use Rattle.bd_extents.proofs.Marks.{GivesLowest, GivesLowest-found, GivesLowest-none}
use Rattle.bd_base.proofs.Lists.{wrapped}
use Rattle.bd_extents.proofs.free_set.FreeSet.lowest.Goals as goal

pub returns-in_err-number : goal.returns-in_err-number
returns-in_err-number c =
    let none = GivesLowest-none c.args.self.now c.self.inside.total c.self.inside.words.items c.self.inside.first_word
    c.self.view_is c.self.invariant (rw (← c.deref.ensures.value) (c.in_err-number.ensures.lowest)) in
    let gives = subst (λ r. GivesLowest c.args.self.now r) (sym c.from_residual.ensures) none in
    record { value = gives.value; none = gives.none }

pub returns : goal.returns
returns c =
    let marks = rw c.deref.ensures.value at c.in_ok-number.ensures.lowest in
    let found = GivesLowest-found c.args.self.now c.self.inside.total c.self.inside.words.items c.self.inside.first_word c.in_ok-number.number
    c.self.view_is c.self.invariant marks in
    let is = wrapped c.new.result _ c.in_ok-number.number c.new.ensures (omega (arith, c.in_ok-number.ensures.within, ap length c.deref.ensures.value)) in
    let gives = subst (λ r. GivesLowest c.args.self.now r) (sym is) found in
    record { value = gives.value; none = gives.none }
