-- Both keys are On.
use Rattle.std.proofs.Common.{ap, sym, ◌∙◌, subst, refl, false, true}
use Rattle.std.specs.FinMap as fin
use Rattle.bd_base.specs.Keys.{key_cmp, key_cmp_total}
use Rattle.bd_tables.specs.Effects.{new_right}
use Rattle.bd_tables.specs.Kernel.{IsAttachedIn, IsOn}
use Rattle.bd_tables.specs.Plain.{PlainState}
use Rattle.bd_tables.specs.State.{Rights}
use Rattle.bd_tables.proofs.Bare.{IsBare, bare-agrees, empty-bare, shared-bare}
use Rattle.bd_tables.proofs.Maps.{other_key, same_key-insert}
use Rattle.bd_tables.proofs.TwoKeys.{processes_apart}
use Rattle.bd_tables.proofs.tests.fragments.two_rights.Goals as goal

pub attach-requires-clause-not_attached : goal.attach-requires-clause-not_attached
attach-requires-clause-not_attached c =
    ap (λ (plain : PlainState). fin.get plain.rights c.args.first.now) c.in_ok-tables.ensures ∙ fin.get-empty key_cmp c.args.first.now

pub attach-requires-clause-agree : goal.attach-requires-clause-agree
attach-requires-clause-agree c =
    bare-agrees c.in_ok-tables.tables.book _ (subst IsBare (sym (ap (λ (plain : PlainState). plain.book) c.in_ok-tables.ensures)) empty-bare)

pub attach-requires-2-clause-not_attached : goal.attach-requires-2-clause-not_attached
attach-requires-2-clause-not_attached c =
    let second = c.args.second.now in
    ap (λ (rights : Rights). fin.get rights second) c.in_ok-attach.ensures.ok.rights
    ∙ other_key key_cmp_total c.in_ok-tables.tables.rights c.args.first.now (new_right c.in_ok-file.file false) second
    (processes_apart second c.args.first.now (λ same. c.requires.differ (sym same)))
    ∙ ap (λ (plain : PlainState). fin.get plain.rights second) c.in_ok-tables.ensures ∙ fin.get-empty key_cmp second

pub attach-requires-2-clause-agree : goal.attach-requires-2-clause-agree
attach-requires-2-clause-agree c =
    let bare = subst IsBare (sym (ap (λ (plain : PlainState). plain.book) c.in_ok-tables.ensures)) empty-bare in
    bare-agrees c.attach.new.self.book _ (shared-bare _ _ _ bare c.in_ok-attach.ensures.ok.book)

pub returns-clause-first : goal.returns-clause-first
returns-clause-first c =
    let first = c.args.first.now in
    let there =
    ap (λ (rights : Rights). fin.get rights first) c.in_ok-attach-2.ensures.ok.rights
    ∙ other_key key_cmp_total c.attach.new.self.rights c.args.second.now (new_right c.in_ok-file.file true) first
    (processes_apart first c.args.second.now c.requires.differ)
    ∙ ap (λ (rights : Rights). fin.get rights first) c.in_ok-attach.ensures.ok.rights
    ∙ same_key-insert key_cmp_total c.in_ok-tables.tables.rights first (new_right c.in_ok-file.file false) in
    subst (IsAttachedIn IsOn) (sym there) refl

pub returns-clause-second : goal.returns-clause-second
returns-clause-second c =
    let second = c.args.second.now in
    let there =
    ap (λ (rights : Rights). fin.get rights second) c.in_ok-attach-2.ensures.ok.rights
    ∙ same_key-insert key_cmp_total c.attach.new.self.rights second (new_right c.in_ok-file.file true) in
    subst (IsAttachedIn IsOn) (sym there) refl
