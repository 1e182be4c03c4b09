-- The state stays as the command is taken.
use Rattle.bd_machine.proofs.engine.Parts+PlainTables+M.begin_walk.Given as goal

abbrev pub ghost-enter : goal.ghost-enter
ghost-enter g a = g.g
