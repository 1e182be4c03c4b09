-- What is told of files, descriptors and a running call is told in the store.
use Rattle.std.proofs.Common.{◌≡◌, ◌↔◌, true}
use Rattle.bd_entry.specs.Calls.{does_write}
use Rattle.bd_entry.specs.Refusals.{descriptor_of}
use Rattle.bd_entry.specs.RulesOfRights.{MayMiss, ThePiece}
use Rattle.bd_store.proofs.Sights.{at_place}
use Rattle.bd_store.proofs.store.PlainStore.may_miss.Goals as goal

pub returns : goal.returns
returns c =
    at_place c.args.self.now c.fs.result.now c.descriptors.result.now c.fs.ensures c.descriptors.ensures c.args.call.now c.args.at.now
    c.running.result.now
    (λ s p. (c.may_miss.result ≡ true) ↔ ThePiece p c.args.number (MayMiss s (does_write p.call) (descriptor_of s p) c.args.found))
    c.running.ensures c.may_miss.ensures
