-- A fragment that is built has no filled cell.
use Rattle.std.proofs.Common.{ap, sym, subst}
use Rattle.bd_tables.specs.Plain.{PlainState}
use Rattle.bd_tables.proofs.Bare.{IsBare, either, shared-bare}
use Rattle.bd_tables.proofs.tests.fragments.attach_bare.Goals as goal

pub returns : goal.returns
returns g c = record {
  bare = either c.attach.result _ _ (IsBare c.attach.new.self.book) c.attach.ensures.ok c.attach.ensures.err
      (λ attached. shared-bare c.args.tables.now.book c.attach.new.self.book _ c.requires.bare attached.book)
      (λ same. subst IsBare (sym (ap (λ (plain : PlainState). plain.book) same)) c.requires.bare);
}
