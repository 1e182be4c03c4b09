-- The entry is that of the command in hand, at the state that is shown.
use Rattle.bd_machine.proofs.parts.Parts.miss_in_hand.Given as goal

abbrev pub ghost-miss_entry : goal.ghost-miss_entry
ghost-miss_entry g a = g.g
