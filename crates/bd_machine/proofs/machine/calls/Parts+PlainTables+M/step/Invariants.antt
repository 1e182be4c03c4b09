use Rattle.bd_machine.proofs.machine.calls.Parts+PlainTables+M.step.Given as goal

abbrev pub ghost-step_processor : goal.ghost-step_processor
ghost-step_processor g a = g.m

abbrev pub ghost-step_engine : goal.ghost-step_engine
ghost-step_engine g a = g.m

abbrev pub ghost-step_invalidation : goal.ghost-step_invalidation
ghost-step_invalidation g a = g.m
