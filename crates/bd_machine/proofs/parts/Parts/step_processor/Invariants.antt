use Rattle.bd_machine.proofs.parts.Parts.step_processor.Given as goal

abbrev pub ghost-begin : goal.ghost-begin
ghost-begin g a = g.m

abbrev pub ghost-next_act : goal.ghost-next_act
ghost-next_act g a = record { script = g.m.script; state = g.m }

abbrev pub ghost-submit : goal.ghost-submit
ghost-submit g a = g.m

abbrev pub ghost-poll : goal.ghost-poll
ghost-poll g a = record { script = g.m.script; state = g.m }

abbrev pub ghost-carry_out : goal.ghost-carry_out
ghost-carry_out g a = g.m

abbrev pub ghost-wait : goal.ghost-wait
ghost-wait g a = g.m
