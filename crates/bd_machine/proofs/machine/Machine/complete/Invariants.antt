-- The state is the one that is shown, with the script of the machine.
use Rattle.bd_machine.proofs.machine.Machine.complete.Given as goal

abbrev pub ghost-complete_one : goal.ghost-complete_one
ghost-complete_one g a = record { script = g.m.script; state = g.m }
