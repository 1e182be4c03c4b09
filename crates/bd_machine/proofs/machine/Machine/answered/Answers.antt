use Rattle.std.proofs.Common.{◌≡◌, ◌<◌, ℕ, get_or, length, ◌∙◌, ap, subst, sym}
use Rattle.bd_machine.specs.Turns.{IsAt}
use Rattle.bd_machine.specs.Whole.{Whole}
use Rattle.bd_machine.proofs.ShowingEnded.{are_finished, ended_is}
use Rattle.bd_machine.proofs.ShowingMachine.{in_its_states}
use Rattle.bd_turns.specs.State.{State, progress_of}
use Rattle.bd_machine.proofs.machine.Machine.answered.Goals as goal

-- how many calls have ended
ended_here : (g : _) (c : goal.After-from g) (m : State) → IsAt g.T.Tables c.self.inside.script c.self.inside.parts m →
    c.from.result ≡ (progress_of m c.args.p).ended
ended_here g c m at =
    let within = subst (λ (w : Whole _ _ _). c.args.p < length w.script.processes) (sym c.self.view_is) c.requires in
    c.from.ensures
    ∙ sym (ended_is c.self.inside.script c.self.inside.parts m at c.args.p c.index.result.now within
    (c.index.ensures ∙ ap (λ (k : ℕ). get_or c.self.inside.parts.processes.items k c.index.result.now) c.get.ensures.value))

pub returns-clause-ended : goal.returns-clause-ended
returns-clause-ended g c =
    in_its_states c.self.inside.script c.self.inside.parts c.args.self.now _ c.self.view_is c.self.invariant (λ m at. ended_here g c m at)

pub returns-clause-finished : goal.returns-clause-finished
returns-clause-finished g c =
    in_its_states c.self.inside.script c.self.inside.parts c.args.self.now _ c.self.view_is c.self.invariant
    (λ m at. are_finished c.self.inside.script c.self.inside.parts m at c.args.p c.from.result (ended_here g c m at))
