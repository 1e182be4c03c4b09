use Rattle.bd_store.proofs.check.take_entry.Given as goal

abbrev pub ghost-apply : goal.ghost-apply
ghost-apply g a = g.s
