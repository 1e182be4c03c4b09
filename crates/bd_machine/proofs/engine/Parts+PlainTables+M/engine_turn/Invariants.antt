use Rattle.bd_machine.proofs.engine.Parts+PlainTables+M.engine_turn.Given as goal

abbrev pub ghost-take_step : goal.ghost-take_step
ghost-take_step g a = g.m
