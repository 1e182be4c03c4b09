use Rattle.bd_machine.proofs.machine.Machine.step_processor.Given as goal

abbrev pub ghost-step_processor : goal.ghost-step_processor
ghost-step_processor g a = g.m
