use Rattle.std.proofs.Common.{◌≡◌}
use Rattle.bd_machine.specs.Machine.{shown}
use Rattle.bd_machine.specs.Tasks.{after_turns, turns_before}
use Rattle.bd_machine.proofs.course.take_scheduled.Given as goal

abbrev pub ghost-take_line : goal.ghost-take_line
ghost-take_line g a = g.task

abbrev pub invariant-loop-line : goal.invariant-loop-line
invariant-loop-line g l = shown l.machine ≡ after_turns g.task (turns_before g.task.script l.line)
