use Rattle.bd_machine.proofs.parts.Parts.blocker.Given as goal

abbrev pub ghost-first_blocker : goal.ghost-first_blocker
ghost-first_blocker g a = g.m
