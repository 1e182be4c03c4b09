use Rattle.bd_machine.proofs.parts.Parts.wait.Given as goal

abbrev pub ghost-blocker : goal.ghost-blocker
ghost-blocker g a = g.m

abbrev pub ghost-wait_for_completion : goal.ghost-wait_for_completion
ghost-wait_for_completion g a = record { script = g.m.script; state = g.m }
