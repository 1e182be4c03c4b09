use Rattle.std.proofs.Common.{◌≡◌}
use Rattle.bd_entry.specs.Refusals.{file_of}
use Rattle.bd_store.proofs.Sights.{at_place}
use Rattle.bd_store.proofs.store.PlainStore.file_of.Goals as goal

pub returns : goal.returns
returns c =
    at_place c.args.self.now c.fs.result.now c.descriptors.result.now c.fs.ensures c.descriptors.ensures c.args.call.now c.args.at.now
    c.running-running.result.now (λ s p. c.file_of.result ≡ file_of s p) c.running-running.ensures c.file_of.ensures
