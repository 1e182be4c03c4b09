use Rattle.bd_kernel.proofs.kernel_call.KernelCall.first_blocker.Goals as goal

pub returns-clause-blocker : goal.returns-clause-blocker
returns-clause-blocker c uids bytes work user number = c.next_blocker.ensures.blocker uids bytes work user number _ c.new-running.ensures
