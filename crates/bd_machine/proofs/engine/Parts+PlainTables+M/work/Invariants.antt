use Rattle.bd_machine.proofs.engine.Parts+PlainTables+M.work.Given as goal

abbrev pub ghost-engine_turn : goal.ghost-engine_turn
ghost-engine_turn g a = g.m

abbrev pub ghosts-engine_turn : goal.ghosts-engine_turn
ghosts-engine_turn g a = record { name = a.blank.name; parts = 1 }
