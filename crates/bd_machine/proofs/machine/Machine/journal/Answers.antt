use Rattle.std.proofs.Common.{◌∙◌, sym}
use Rattle.bd_machine.proofs.ShowingMachine.{in_its_states}
use Rattle.bd_machine.proofs.machine.Machine.journal.Goals as goal

pub returns-clause-journal : goal.returns-clause-journal
returns-clause-journal g c =
    in_its_states c.self.inside.script c.self.inside.parts c.args.self.now _ c.self.view_is c.self.invariant
    (λ m at. c.entries.ensures ∙ sym at.shows.journal)

pub returns-clause-history : goal.returns-clause-history
returns-clause-history g c =
    in_its_states c.self.inside.script c.self.inside.parts c.args.self.now _ c.self.view_is c.self.invariant
    (λ m at. ∣ (at.reached.0, at.reached.1.history) ∣₁)
