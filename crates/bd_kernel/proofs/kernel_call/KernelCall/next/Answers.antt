use Rattle.std.proofs.Common.{ℕ, List, subst}
use Rattle.bd_kernel.specs.Turns.{IsNextAct, IsNextActOf, Progress}
use Rattle.bd_kernel.proofs.kernel_call.KernelCall.next.Goals as goal

pub returns : goal.returns
returns c =
    let i = c.self.inside in
    let fs = c.args.fs.now in
    let table = c.args.descriptors.now in
    subst (λ (q : Progress). IsNextAct fs table q c.next_act.result) c.self.view_is
    (subst (λ (out : List ℕ). IsNextActOf fs table i.call i.process i.uid i.running out c.next_act.result) c.as_slice.ensures c.next_act.ensures)
