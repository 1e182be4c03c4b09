use Rattle.bd_machine.proofs.entries.entry_of_act.Given as goal

abbrev pub ghost-opened_entry : goal.ghost-opened_entry
ghost-opened_entry g a = g.g.place

abbrev pub ghost-created_entry : goal.ghost-created_entry
ghost-created_entry g a = g.g

abbrev pub ghost-released_entry : goal.ghost-released_entry
ghost-released_entry g a = g.g

abbrev pub ghost-access_entry : goal.ghost-access_entry
ghost-access_entry g a = g.g

abbrev pub ghost-unlinked_entry : goal.ghost-unlinked_entry
ghost-unlinked_entry g a = g.g
