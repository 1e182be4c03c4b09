use Rattle.bd_machine.specs.Kept.{state_shown}
use Rattle.bd_machine.proofs.machine.calls.Machine+PlainTables+M.step.Given as goal

abbrev pub ghost-step : goal.ghost-step
ghost-step g a = state_shown a.script.now a.self.now
