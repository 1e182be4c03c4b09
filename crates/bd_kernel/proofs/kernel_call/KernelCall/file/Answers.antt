use Rattle.std.proofs.Common.{◌≡◌, sym, subst}
use Rattle.bd_entry.specs.Refusals.{file_of}
use Rattle.bd_kernel.specs.Changes.{Rows}
use Rattle.bd_kernel.specs.Sights.{AtPlace}
use Rattle.bd_kernel.specs.Turns.{IsFileOf, Progress}
use Rattle.bd_kernel.proofs.kernel_call.KernelCall.file.Goals as goal

pub returns : goal.returns
returns c =
    let i = c.self.inside in
    let fs = c.args.fs.now in
    let told =
    subst (λ (rows : Rows). AtPlace fs rows i.call i.process i.running.opened (λ s p. c.file_of.result ≡ file_of s p)) c.table.ensures
    c.file_of.ensures in
    subst (λ (q : Progress). IsFileOf fs c.args.descriptors.now q c.file_of.result) c.self.view_is
    (λ uids bytes work number before entries. told uids bytes work number before entries.marks.opened)
