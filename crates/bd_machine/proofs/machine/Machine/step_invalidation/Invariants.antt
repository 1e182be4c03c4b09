use Rattle.bd_machine.proofs.machine.Machine.step_invalidation.Given as goal

abbrev pub ghost-step_invalidation : goal.ghost-step_invalidation
ghost-step_invalidation g a = g.m
