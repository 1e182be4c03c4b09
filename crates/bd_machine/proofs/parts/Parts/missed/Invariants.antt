-- The state is the one that is shown.
use Rattle.bd_machine.proofs.parts.Parts.missed.Given as goal

abbrev pub ghost-may_note : goal.ghost-may_note
ghost-may_note g a = g.g

abbrev pub ghost-miss_in_hand : goal.ghost-miss_in_hand
ghost-miss_in_hand g a = g.g
