use Rattle.std.proofs.Common.{◌≡◌, ◌+◌}
use Rattle.bd_machine.specs.Machine.{shown}
use Rattle.bd_machine.specs.Tasks.{after_turns, turns_before, turns_within}
use Rattle.bd_machine.proofs.CourseTurns.{items_of_line}
use Rattle.bd_machine.proofs.course.take_line.Given as goal

abbrev pub ghost-take_turns : goal.ghost-take_turns
ghost-take_turns g a = record { task = g.task; turns = (shown a.machine.now).turns }

abbrev pub invariant-loop-number : goal.invariant-loop-number
invariant-loop-number g l =
    shown l.machine ≡ after_turns g.task (turns_before g.task.script l.line + turns_within (items_of_line g.task.script l.line) l.number)
