use Rattle.std.proofs.Common.{◌≡◌, refl}
use Rattle.bd_entry.specs.Refusals.{denial}
use Rattle.bd_store.proofs.Sights.{for_user}
use Rattle.bd_store.proofs.store.PlainStore.open_denial.Goals as goal

pub returns : goal.returns
returns c =
    let k = c.args.self.now in
    for_user k c.fs.result.now k.opens c.fs.ensures refl c.args.process c.uid.result
    (λ s. c.open_denial.result ≡ denial s c.args.process c.args.mode c.args.file) c.uid.ensures (c.open_denial.ensures k.opens c.args.process)
