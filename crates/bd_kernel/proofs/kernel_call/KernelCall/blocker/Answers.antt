use Rattle.std.proofs.Common.{ℕ, List, subst}
use Rattle.bd_kernel.specs.Turns.{IsBlocker, IsBlockerOf, Progress}
use Rattle.bd_kernel.proofs.kernel_call.KernelCall.blocker.Goals as goal

pub returns-clause-blocker : goal.returns-clause-blocker
returns-clause-blocker c =
    let i = c.self.inside in
    let fs = c.args.fs.now in
    let table = c.args.descriptors.now in
    subst (λ (q : Progress). IsBlocker fs table q c.next_blocker.result) c.self.view_is
    (subst (λ (out : List ℕ). IsBlockerOf fs table i.call i.process i.uid i.running out c.next_blocker.result) c.as_slice.ensures
    c.next_blocker.ensures.blocker)
