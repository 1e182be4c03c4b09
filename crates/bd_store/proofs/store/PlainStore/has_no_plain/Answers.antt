use Rattle.std.proofs.Common.{◌≡◌, true, false, not, Some, ◌↔◌, sym, ap, ◌∙◌, subst, rules}
use Rattle.std.specs.Prelude.{is_some}
use Rattle.std.proofs.lemmas.Bool.{not-false}
use Rattle.bd_entry.specs.declared.entry.Entry.{Entry}
use Rattle.bd_entry.specs.Calls.{at_of}
use Rattle.bd_entry.specs.RulesOfRights.{HasNoPlain}
use Rattle.bd_entry.specs.Rules.{place_in}
use Rattle.bd_entry.specs.Store.{Descriptor, Store, descriptor_at, first_holder, first_plain, has_plain, is_plain_of}
use Rattle.bd_store.specs.Kept.{store_of}
use Rattle.bd_store.proofs.OpenDescriptors.{TheDescriptor_iff}
use Rattle.bd_store.proofs.store.PlainStore.has_no_plain.Goals as goal

pub returns-in-Some : goal.returns-in-Some
returns-in-Some c call work marked =
    let s : Store = store_of c.args.self.now work in
    let d : Descriptor = c.in-Some.descriptor.now in
    let holder : c.first_plain.result ≡ first_plain s d.file =
    c.first_plain.ensures ∙ ap (first_holder (is_plain_of c.descriptor.inside.file) 0) c.descriptors-in-Some.ensures
    ∙ ap (λ (d : Descriptor). first_plain s d.file) c.descriptor.view_is in
    let plain : has_plain s d.file ≡ not c.is_none.result = sym (ap is_some holder) ∙ c.is_none.ensures in
    let none : (c.is_none.result ≡ true) ↔ (has_plain s d.file ≡ false) =
    (λ yes. plain ∙ ap not yes, λ no. not-false c.is_none.result (sym plain ∙ no)) in
    let there : descriptor_at s c.in-Attached.at.process c.in-Attached.fd ≡ Some d = search rules in
    subst (λ (e : Entry). (c.is_none.result ≡ true) ↔ HasNoPlain s (place_in s call (at_of e)) e) (sym c.in-Attached.is)
    (TheDescriptor_iff (descriptor_at s c.in-Attached.at.process c.in-Attached.fd) d (λ d. has_plain s d.file ≡ false) c.is_none.result there none)
