-- The next entry of each call is legal.
use Rattle.std.proofs.Common.{◌≡◌, ℕ, List, [], Some, refl, ap, ◌∙◌, subst}
use Rattle.std.proofs.lemmas.Bool.{false≢true}
use Rattle.std.proofs.lemmas.Option.{same_Some}
use Rattle.bd_base.specs.declared.script.Call.TheVariants.{Create, Size}
use Rattle.bd_base.specs.Inodes.{free_id}
use Rattle.bd_entry.specs.declared.act.Act.TheVariants as acts
use Rattle.bd_entry.specs.declared.entry.Entry.{Entry}
use Rattle.bd_entry.specs.declared.entry.Entry.TheVariants as entries
use Rattle.bd_entry.specs.Actions.{entry_of_act}
use Rattle.bd_entry.specs.Calls.{Place}
use Rattle.bd_entry.specs.NextEntries.{IsLegalAt, NextIsLegal, running}
use Rattle.bd_entry.specs.Refusals.{file_of}
use Rattle.bd_entry.specs.Rules.{EntryRule, FitsStore, IsOpen, NotRefused, RightFile, WithinLimit}
use Rattle.bd_entry.specs.RulesOfContents.{MayBegin}
use Rattle.bd_entry.specs.Store.{Descriptor, Store, descriptor_at, size_in}
use Rattle.bd_entry.proofs.NextActs.{OwnIsLegal, is_there, map_from, next_from_own, none_outstanding}

-- ---- creates

-- a new file with the lowest free id
created-keeps : (s : Store) (p : Place) (file perms : ℕ) (name : List ℕ) → free_id s.files ≡ Some file → MayBegin s p → (rule : EntryRule) →
    FitsStore s p (entries.Created p.at file name perms) rule
created-keeps s p file perms name free may RightFile = free
created-keeps s p file perms name free may NotRefused = may
created-keeps s p file perms name free may rule = tt

create_is_legal : (name : List ℕ) (perms : ℕ) → OwnIsLegal (Create name perms)
create_is_legal name perms s holders at before outstanding act e ready own adds =
    let r = running (Create name perms) at before outstanding in
    let p = r.place in
    let none : outstanding ≡ [] = none_outstanding outstanding (λ number some. false≢true (ready.outstanding number some)) in
    let made = map_from (λ file. entries.Created at file name perms) (free_id s.files) e
    (ap (entry_of_act s p) (same_Some acts.Created act own.own) ∙ adds) in
    subst (IsLegalAt s p) made.2
    (record {
      of_call = record { kind = refl; fields = (refl, refl) };
      of_place = refl;
      once = tt;
      keeps = created-keeps s p made.0 perms name made.1 (own.may_begin none);
    })

pub creates_are_legal : (name : List ℕ) (perms : ℕ) → NextIsLegal (Create name perms)
creates_are_legal name perms = next_from_own (Create name perms) (create_is_legal name perms)

-- ---- questions for a size

size_read-keeps : (s : Store) (p : Place) (fd : ℕ) (d : Descriptor) → descriptor_at s p.at.process fd ≡ Some d → MayBegin s p → (rule : EntryRule) →
    FitsStore s p (entries.SizeRead p.at fd (size_in s d.file)) rule
size_read-keeps s p fd d is may IsOpen = is_there (descriptor_at s p.at.process fd) d is
size_read-keeps s p fd d is may WithinLimit = (d, is, refl)
size_read-keeps s p fd d is may NotRefused = may
size_read-keeps s p fd d is may rule = tt

size_is_legal : (fd : ℕ) → OwnIsLegal (Size fd)
size_is_legal fd s holders at before outstanding act e ready own adds =
    let r = running (Size fd) at before outstanding in
    let p = r.place in
    let none : outstanding ≡ [] = none_outstanding outstanding (λ number some. false≢true (ready.outstanding number some)) in
    let of = map_from (λ file. acts.SizeRead (size_in s file)) (file_of s p) act own.own in
    let by = map_from (λ (d : Descriptor). d.file) (descriptor_at s at.process fd) of.0 of.1 in
    let entry : ℕ → Entry = λ file. entries.SizeRead at fd (size_in s file) in
    let same : entry by.0.file ≡ e =
    ap entry by.2 ∙ same_Some (entry of.0) e (ap (entry_of_act s p) of.2 ∙ adds) in
    subst (IsLegalAt s p) same
    (record {
      of_call = record { kind = refl; fields = refl };
      of_place = refl;
      once = tt;
      keeps = size_read-keeps s p fd by.0 by.1 (own.may_begin none);
    })

pub sizes_read_are_legal : (fd : ℕ) → NextIsLegal (Size fd)
sizes_read_are_legal fd = next_from_own (Size fd) (size_is_legal fd)
