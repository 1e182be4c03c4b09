use Rattle.std.proofs.Common.{sym, subst, length, ◌*◌}
use Rattle.bd_machine.specs.Machine.{IsShown}
use Rattle.bd_machine.specs.Turns.{IsAt}
use Rattle.bd_machine.specs.Whole.{Whole}
use Rattle.bd_machine.proofs.ShowingTurns.{kept_after, last_is_actor}
use Rattle.bd_machine.proofs.machine.Machine.step_invalidation.Goals as goal

pub invariant_of-self : goal.invariant_of-self
invariant_of-self g c =
    let script = c.self.inside.script in
    let at : IsAt g.T.Tables script c.self.inside.parts g.m =
    subst (λ (w : Whole _ _ _). IsShown g.T.Tables w g.m) (sym c.self.view_is) c.requires.1.1.1 in
    kept_after script c.self.inside.parts c.step_invalidation.new.self g.m (2 * length script.processes) c.step_invalidation.result at
    (last_is_actor script c.self.inside.parts g.m at)
    c.step_invalidation.ensures.ok c.step_invalidation.ensures.err
