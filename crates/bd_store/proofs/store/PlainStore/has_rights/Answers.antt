use Rattle.std.proofs.Common.{inl, inr}
use Rattle.bd_store.proofs.store.PlainStore.has_rights.Goals as goal

pub returns-in-Plain : goal.returns-in-Plain
returns-in-Plain c = λ work marked. rw (c.in-Opened.is, c.in-Plain.is) c.has_no_rights.ensures

pub returns-in-Detached : goal.returns-in-Detached
returns-in-Detached c = λ work marked. rw c.in-Detached.is (c.may_detach.ensures c.args.call.now work marked)

pub returns-in-Released : goal.returns-in-Released
returns-in-Released c = λ work marked.
    elim c.in-Released.is [
      | inl w ↦ rw w.3 c.has_no_rights-in-Released.ensures
      | inr w ↦ rw w.1 c.has_no_rights-in-Released.ensures
    ]
