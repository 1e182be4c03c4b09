use Rattle.std.proofs.Common.{◌≡◌, ◌+◌}
use Rattle.bd_machine.specs.Machine.{shown}
use Rattle.bd_machine.specs.Tasks.{after_turns}
use Rattle.bd_machine.proofs.course.take_turns.Given as goal

abbrev pub invariant-loop-turn : goal.invariant-loop-turn
invariant-loop-turn g l = shown l.machine ≡ after_turns g.g.task (g.g.turns + l._turn)
