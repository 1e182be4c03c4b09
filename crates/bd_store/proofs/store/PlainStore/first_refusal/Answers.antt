use Rattle.std.proofs.Common.{◌≡◌}
use Rattle.bd_entry.specs.Refusals.{first_refusal}
use Rattle.bd_store.proofs.Sights.{for_user}
use Rattle.bd_store.proofs.store.PlainStore.first_refusal.Goals as goal

pub returns : goal.returns
returns c =
    for_user c.args.self.now c.fs.result.now c.descriptors.result.now c.fs.ensures c.descriptors.ensures c.args.process c.uid-uid.result
    (λ s. c.first_refusal.result ≡ first_refusal s c.args.process c.args.call.now) c.uid-uid.ensures c.first_refusal.ensures
