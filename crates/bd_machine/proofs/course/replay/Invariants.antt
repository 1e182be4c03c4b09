use Rattle.bd_machine.specs.Machine.{shown}
use Rattle.bd_machine.specs.Tasks.{task_of}
use Rattle.bd_machine.proofs.course.replay.Given as goal

abbrev pub ghost-run : goal.ghost-run
ghost-run a = task_of (shown a.machine.now)
