use Rattle.std.proofs.Common.{◌≡◌, ◌+◌, ℕ, arith, ap, length, refl, length-take, length-drop}
use Rattle.bd_outside.proofs.Steps.{Appends-next}
use Rattle.bd_outside.proofs.whole.write_all.Goals as goal

pub loop-done-preserved : goal.loop-done-preserved
loop-done-preserved g c =
    let wrote = c.in-Bytes.ensures in
    record {
      within = omega (arith, c.loop-done.invariant.within, wrote.in_piece, length-take {A = ℕ}, length-drop {A = ℕ});
      appended = Appends-next _ _ _ _ _ _ c.loop-done.invariant.appended wrote.appended;
      faults = omega (arith, c.loop-done.invariant.faults, wrote.faults);
      untouched = λ (none : c.loop-done.done + c.in-Bytes.n ≡ 0). absurd (omega (arith, none, wrote.in_piece));
    }

pub returns-clause-none : goal.returns-clause-none
returns-clause-none g c = λ none.
    let start : c.loop-done.done ≡ 0 = omega (arith, ap length none, c.loop-done.invariant.within) in
    (refl, c.loop-done.invariant.untouched start)
