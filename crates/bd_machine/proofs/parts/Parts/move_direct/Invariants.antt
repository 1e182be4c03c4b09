-- The state is the one that is shown.
use Rattle.bd_machine.proofs.parts.Parts.move_direct.Given as goal

abbrev pub ghost-move_in_hand : goal.ghost-move_in_hand
ghost-move_in_hand g a = g.m
