use Rattle.bd_machine.proofs.engine.Parts+PlainTables+M.step_engine.Given as goal

abbrev pub ghost-work : goal.ghost-work
ghost-work g a = g.m
