-- The state is the one that is shown.
use Rattle.bd_machine.proofs.machine.Machine.move_direct.Given as goal

abbrev pub ghost-move_direct : goal.ghost-move_direct
ghost-move_direct g a = g.m
