-- What is told of the parts of the call is told of the call.
use Rattle.std.proofs.Common.{◌≡◌, ◌↔◌, true, subst}
use Rattle.bd_entry.specs.Calls.{does_write}
use Rattle.bd_entry.specs.Refusals.{descriptor_of}
use Rattle.bd_entry.specs.RulesOfRights.{MayMiss, ThePiece}
use Rattle.bd_kernel.specs.Changes.{Rows}
use Rattle.bd_kernel.specs.Sights.{AtPlace}
use Rattle.bd_kernel.specs.Turns.{MayMissAt, Progress}
use Rattle.bd_kernel.proofs.kernel_call.KernelCall.may_miss.Goals as goal

pub returns : goal.returns
returns c =
    let i = c.self.inside in
    let fs = c.args.fs.now in
    let told =
    subst
    (λ (rows : Rows). AtPlace fs rows i.call i.process i.running.opened (λ s p. (c.may_miss.result ≡ true)
    ↔ ThePiece p c.args.piece (MayMiss s (does_write p.call) (descriptor_of s p) c.args.found)))
    c.table.ensures c.may_miss.ensures in
    subst (λ (q : Progress). MayMissAt fs c.args.descriptors.now q c.args.piece c.args.found c.may_miss.result) c.self.view_is
    (λ uids bytes work number before entries. told uids bytes work number before entries.marks.opened)
