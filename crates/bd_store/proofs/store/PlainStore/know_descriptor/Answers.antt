use Rattle.std.proofs.Common.{refl}
use Rattle.bd_entry.specs.Effects.{with_known_size}
use Rattle.bd_entry.specs.Store.{with_descriptor}
use Rattle.bd_store.specs.Kept.{Kept}
use Rattle.bd_store.proofs.KeptDisks.{kept_on-after}
use Rattle.bd_store.proofs.store.PlainStore.know_descriptor.Goals as goal

pub returns : goal.returns
returns c =
    let d = c.self.inside.disk in
    let k : Kept = record {
      total = d.total;
      uids = c.self.inside.uids;
      files = d.files;
      bytes = d.bytes;
      opens = d.rows;
      marks = c.self.inside.calls.items;
    } in
    kept_on-after c.args.self.now k d.held c.know.new.self (λ s. with_descriptor s c.args.process c.args.fd with_known_size) c.self.view_is
    c.know.ensures.effect refl
