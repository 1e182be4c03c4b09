-- The files on which rights are attached, through each entry that a turn adds.
use Rattle.std.proofs.Common.{◌≡◌, ◌≢◌, ℕ, ◌≤◌, true, [], Option, None, Some, IsSome, refl, sym, ap, ◌∙◌, subst}
use Rattle.std.specs.Option.{option_and_then, option_map}
use Rattle.std.specs.FinMap as fin
use Rattle.std.proofs.lemmas.Bool.{both_ways}
use Rattle.std.proofs.lemmas.Option.{same_Some}
use Rattle.bd_base.specs.declared.journal.At.{At}
use Rattle.bd_base.specs.declared.key.Key.{Key}
use Rattle.bd_base.specs.declared.script.Call.{Call}
use Rattle.bd_base.specs.declared.script.Call.TheVariants.{Truncate}
use Rattle.bd_base.specs.declared.volume.Volume.{Volume}
use Rattle.bd_entry.specs.declared.entry.Entry.{Entry}
use Rattle.bd_entry.specs.declared.entry.Entry.TheVariants.{Extended, Sized}
use Rattle.bd_entry.specs.Calls.{Place, fd_of}
use Rattle.bd_entry.specs.Effects.{effect_of}
use Rattle.bd_entry.specs.Refusals.{descriptor_of, file_of_call}
use Rattle.bd_entry.specs.Rules.{WithinLimit}
use Rattle.bd_entry.specs.RulesOfContents.{AsksForSize}
use Rattle.bd_entry.specs.Store.{Descriptor, Store, Valid, descriptor_at, file_in, has_part, has_rights_on, size_in}
use Rattle.bd_entry.proofs.Descriptors.{rights-on}
use Rattle.bd_tables.specs.declared.state.Right.{Right}
use Rattle.bd_tables.specs.State.{Rights}
use Rattle.bd_turns.specs.Added.{IsAdded}
use Rattle.bd_turns.specs.Sound.{IsRightOf}
use Rattle.bd_turns.specs.State.{State}
use Rattle.bd_turns.proofs.AddedEntries.{FromAction, added_keeps, added_of_call, sized_within}
use Rattle.bd_turns.proofs.CellsOfFiles.{DoesNotGrow, IsOfProcess, KeepsAt, file_kept}
use Rattle.bd_turns.proofs.CellsOfPairs.{KeepsFilesOf}
use Rattle.bd_turns.proofs.RightsFit.{AllFit, Fits}

-- ---- the file of a right

-- the descriptor of an attached key
pub record OfRight (s : Store) (key : Key) (right : Right) : Type 0 where
  pub d : Descriptor
  pub there : descriptor_at s key.process key.fd ≡ Some d
  pub is_right : IsRightOf key right d
  pub some : d.attached ≢ []

pub of_right : (rights : Rights) (s : Store) → AllFit rights s → (key : Key) (right : Right) → fin.get rights key ≡ Some right → OfRight s key right
of_right rights s all key right is =
    by (descriptor_at s key.process key.fd) refl
    (subst (λ (r : Option Right). Fits key r (descriptor_at s key.process key.fd)) is (all key))
  where
    by : (slot : Option Descriptor) → descriptor_at s key.process key.fd ≡ slot → Fits key (Some right) slot → OfRight s key right
    by None there fits = absurd fits
    by (Some d) there fits = record {
      d = d;
      there = there;
      is_right = fits;
      some = λ none. both_ways (has_part key.part d.attached) (ap (has_part key.part) none) fits.attached;
    }

-- the file of an attached key is there, with a right
pub file_of_right : (rights : Rights) (s : Store) → Valid s → AllFit rights s → (key : Key) (right : Right) → fin.get rights key ≡ Some right →
    IsSome (file_in s right.file) × (has_rights_on s right.file ≡ true)
file_of_right rights s valid all key right is =
    let of = of_right rights s all key right is in
    let file : of.d.file ≡ right.file = sym of.is_right.file in (
      subst (λ (n : ℕ). IsSome (file_in s n)) file (valid.descriptors key.process key.fd of.d of.there).of_file,
      subst (λ (n : ℕ). has_rights_on s n ≡ true) file (rights-on s key.process key.fd of.d of.there of.some),
    )

-- an entry that grows none of the files with rights keeps them
pub keeps_files : (rights : Rights) (s : Store) (p q : Place) (e : Entry) → Valid s → AllFit rights s → KeepsAt s p e → IsOfProcess p e →
    ((key : Key) (right : Right) → fin.get rights key ≡ Some right → DoesNotGrow s p right.file e) → KeepsFilesOf rights s (effect_of s q e)
keeps_files rights s p q e valid all keeps of still key right is =
    let file = file_of_right rights s valid all key right is in
    file_kept s p q e right.file keeps of file.0 file.1 (still key right is)

-- ---- the entries of processors

-- the place of an added entry is of its process
pub added_process : (v : Volume) (m : State) (p : Place) (e : Entry) → IsAdded v m p e → IsOfProcess p e
added_process v m p (Sized at fd size) added = ap (λ (a : At). a.process) added.at_is
added_process v m p e added = tt

asks_truncation : (call : Call) (size : ℕ) → AsksForSize call size → (named : ℕ) × (call ≡ Truncate named size)
asks_truncation (Truncate fd size) told asks = (fd, ap (Truncate fd) (sym asks))
asks_truncation call told asks = absurd asks

-- a truncation that ends sets no size above that of its file
pub sized_still : (v : Volume) (m : State) (p : Place) (at : At) (fd size id : ℕ) → IsAdded v m p (Sized at fd size) →
    FromAction m p (Sized at fd size) →
    DoesNotGrow m.store p id (Sized at fd size)
sized_still v m p at fd size id added from d there same =
    let s = m.store in
    let rule = added_keeps v m p (Sized at fd size) added WithinLimit in
    let asks = asks_truncation p.call size rule.2.0 in
    let within = sized_within m p at asks.0 fd size from asks.1 in
    let fd_is : fd_of p ≡ Some fd = (added_of_call v m p (Sized at fd size) added).fields in
    let here : descriptor_at s p.at.process fd ≡ Some d = ap (λ (a : At). descriptor_at s a.process fd) (sym added.at_is) ∙ there in
    let descriptor : descriptor_of s p ≡ Some d = ap (option_and_then (descriptor_at s p.at.process)) fd_is ∙ here in
    let file : Some d.file ≡ Some within.0 =
    sym (ap (λ (c : Call). file_of_call s c (descriptor_of s p)) asks.1 ∙ ap (option_map (λ (d : Descriptor). d.file)) descriptor) ∙ within.1 in
    let of_id : within.0 ≡ id = sym (same_Some d.file within.0 file) ∙ same in
    subst (λ (n : ℕ). size ≤ size_in s n) of_id within.2

-- an entry of a processor grows a file by a growth alone
pub does_not_grow : (v : Volume) (m : State) (p : Place) (e : Entry) → IsAdded v m p e → FromAction m p e → (id : ℕ) →
    ((at : At) (file to : ℕ) (block : Option ℕ) → e ≡ Extended at file to block → file ≢ id) → DoesNotGrow m.store p id e
does_not_grow v m p (Extended at file to block) added from id apart = apart at file to block refl
does_not_grow v m p (Sized at fd size) added from id apart = sized_still v m p at fd size id added from
does_not_grow v m p e added from id apart = tt
