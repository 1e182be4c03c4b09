use Rattle.bd_machine.proofs.parts.Parts.move_in_hand.Given as goal

abbrev pub ghost-entry_in_hand : goal.ghost-entry_in_hand
ghost-entry_in_hand g a = g.m
