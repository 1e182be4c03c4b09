use Rattle.std.proofs.Common.{◌≡◌, refl}
use Rattle.std.specs.Option.{option_copied}
use Rattle.bd_entry.specs.Refusals.{descriptor_of}
use Rattle.bd_store.proofs.Sights.{at_place}
use Rattle.bd_store.specs.Kept.{files_of}
use Rattle.bd_store.proofs.store.PlainStore.descriptor_of.Goals as goal

pub returns : goal.returns
returns c =
    at_place c.args.self.now (files_of c.args.self.now) c.descriptors.result.now refl c.descriptors.ensures c.args.call.now c.args.at.now
    c.running-running.result.now (λ s p. option_copied c.descriptor_of.result ≡ descriptor_of s p) c.running-running.ensures
    (λ uids bytes work number before opens. c.descriptor_of.ensures before opens)
