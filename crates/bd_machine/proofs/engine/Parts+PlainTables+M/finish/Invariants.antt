-- The state is the one that is shown.
use Rattle.bd_machine.proofs.engine.Parts+PlainTables+M.finish.Given as goal

abbrev pub ghost-complete : goal.ghost-complete
ghost-complete g a = g.g
