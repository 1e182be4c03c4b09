-- What the steps of a turn leave of the state that the parts of a machine show.
pub use Rattle.bd_machine.proofs.ShowingSteps.{KeepsOthers, KeepsPasses, KeepsHolds, OneSteps, one_steps, tables_step, hold_step}
pub use Rattle.bd_machine.proofs.ShowingEntries.{with_one_more}
pub use Rattle.bd_machine.proofs.ShowingAdding.{AddsEntry, IsOf, entry_step, entry_running, entry_begun}
pub use Rattle.bd_machine.proofs.ShowingEnds.{end_step}
pub use Rattle.bd_machine.proofs.ShowingWhich.{processor_is_of, engine_is_of}
