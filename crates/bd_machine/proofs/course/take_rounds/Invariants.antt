use Rattle.std.proofs.Common.{◌-◌}
use Rattle.bd_turns.specs.CourseLaws.{longest_run}
use Rattle.bd_machine.specs.Machine.{shown}
use Rattle.bd_machine.proofs.CourseRounds.{IsInRounds}
use Rattle.bd_machine.proofs.course.take_rounds.Given as goal

abbrev pub invariant-loop-machine : goal.invariant-loop-machine
invariant-loop-machine g l = IsInRounds g.task (shown l.machine) l.next l.actors

abbrev pub decreases-loop-machine : goal.decreases-loop-machine
decreases-loop-machine g l = longest_run - (shown l.machine).turns
