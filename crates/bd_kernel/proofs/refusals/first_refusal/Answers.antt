use Rattle.bd_kernel.proofs.refusals.first_refusal.Goals as goal

pub returns-in-Enter : goal.returns-in-Enter
returns-in-Enter c = λ uids bytes work user. rw c.in-Enter.is (c.open_refusal.ensures uids bytes work user)

pub returns-in-Create : goal.returns-in-Create
returns-in-Create c = λ uids bytes work user. rw c.in-Create.is c.can_create.ensures

pub returns-in-Unlink : goal.returns-in-Unlink
returns-in-Unlink c = λ uids bytes work user. rw c.in-Unlink.is (c.unlink_refusal.ensures _ uids bytes work user)
