use Rattle.bd_store.proofs.store.PlainStore.apply.Given as goal

abbrev pub ghost-change : goal.ghost-change
ghost-change g a = g.s
