use Rattle.bd_machine.proofs.course.run.Given as goal

abbrev pub ghost-take_scheduled : goal.ghost-take_scheduled
ghost-take_scheduled g a = g.task

abbrev pub ghost-take_rounds : goal.ghost-take_rounds
ghost-take_rounds g a = g.task
