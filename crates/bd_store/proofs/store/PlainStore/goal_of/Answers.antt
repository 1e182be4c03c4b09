use Rattle.std.proofs.Common.{◌≡◌, refl}
use Rattle.bd_entry.specs.Refusals.{goal_of}
use Rattle.bd_store.specs.Kept.{files_of}
use Rattle.bd_store.proofs.Sights.{at_place_of_pieces}
use Rattle.bd_store.proofs.store.PlainStore.goal_of.Goals as goal

pub returns : goal.returns
returns c =
    at_place_of_pieces c.args.self.now (files_of c.args.self.now) c.descriptors.result.now refl c.descriptors.ensures c.args.call.now c.args.at.now
    c.running-running.result.now (λ s p. c.goal_of.result ≡ goal_of s p) c.running-running.ensures (c.goal_of.ensures (files_of c.args.self.now))
