-- The state is the one that is shown, with the script of the machine.
use Rattle.bd_machine.proofs.machine.Machine.missed.Given as goal

abbrev pub ghost-missed : goal.ghost-missed
ghost-missed g a = record { script = g.g.state.script; state = g.g.state }
