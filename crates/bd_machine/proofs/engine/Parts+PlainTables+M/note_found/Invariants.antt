-- The state is the one that is shown.
use Rattle.bd_machine.proofs.engine.Parts+PlainTables+M.note_found.Given as goal

abbrev pub ghost-found : goal.ghost-found
ghost-found g a = g.g

abbrev pub ghost-miss_in_hand : goal.ghost-miss_in_hand
ghost-miss_in_hand g a = g.g
