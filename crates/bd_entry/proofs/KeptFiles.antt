-- While a right on a file is attached, the file is kept.
use Rattle.std.proofs.Common.{◌≡◌, ◌≢◌, ℕ, ◌≤◌, true, false, ◌&&◌, List, [], length, Option, None, Some, refl, sym, ap, ◌∙◌, subst}
use Rattle.std.specs.Prelude.{nat_eq, nat_lt, slice_get, IsSome}
use Rattle.std.specs.Option.{option_map_or}
use Rattle.std.proofs.lemmas.Bool.{and_left, and_parts, and_right, both_ways, eqb-true, false≢true, ne_eqb}
use Rattle.bd_base.specs.declared.script.Call.{Call}
use Rattle.bd_base.specs.declared.script.How.{How}
use Rattle.bd_base.specs.declared.script.How.TheVariants.{Plain, Direct}
use Rattle.bd_base.specs.declared.volume.Inode.{Inode}
use Rattle.bd_base.specs.Inodes.{blocks_of_slot, inode_at}
use Rattle.bd_entry.specs.declared.entry.Entry.{Entry}
use Rattle.bd_entry.specs.declared.entry.Entry.TheVariants.{Attached, Cleared, Detached, Opened}
use Rattle.bd_entry.specs.Calls.{at_of}
use Rattle.bd_entry.specs.Effects.{after_change, effect_of}
use Rattle.bd_entry.specs.Promises.{RightsKeepFiles}
use Rattle.bd_entry.specs.Rules.{EntryRule, FitsStore, Rights, place_in}
use Rattle.bd_entry.specs.RulesOfRights.{HasNoRights, NoRightsWherePlain}
use Rattle.bd_entry.specs.Store.{Descriptor, Store, Valid, blocks_in, descriptor_at, file_in, has_plain, has_rights, has_rights_on, is_attached_of, is_plain, is_plain_of, size_in}
use Rattle.bd_entry.proofs.EffectsOnFiles.{effect_of-files}
use Rattle.bd_entry.proofs.HistoryLaws.{histories_keep_valid}
use Rattle.bd_entry.proofs.Holders.{is_some-first_holder}
use Rattle.bd_entry.proofs.StayingFiles.{FileStays, file_with_rights_stays}
use Rattle.bd_entry.proofs.SlotTests.{IgnoresSizes, Spares, descriptor-place, none-after}

-- a file with rights is not one without
not_without : (s : Store) (file id : ℕ) → has_rights_on s file ≡ true → HasNoRights s id → file ≡ id → ⊥
not_without s file id some none same = both_ways (has_rights_on s file) (ap (has_rights_on s) same ∙ none) some

-- ---- plain descriptors

-- a slot that is attached has a descriptor of the file with a right
attached_slot : (file : ℕ) (slot : Option Descriptor) → is_attached_of file slot ≡ true →
    (d : Descriptor) × (slot ≡ Some d) × (d.file ≡ file) × (d.attached ≢ [])
attached_slot file None is = absurd (false≢true is)
attached_slot file (Some d) is =
    let parts = and_parts (nat_eq d.file file) (has_rights d) is in
    (d, refl, eqb-true d.file file parts.0, λ none. both_ways (has_rights d) (ap (λ (xs : List ℕ). nat_lt 0 (length xs)) none) parts.1)

plain-ignores : (file : ℕ) → IgnoresSizes (is_plain_of file)
plain-ignores file = record { none = refl; known = λ d size. refl; told = λ d size. refl }

opens_plain : (s : Store) (how : How) (file id : ℕ) → NoRightsWherePlain s how id → has_rights_on s file ≡ true
    → (nat_eq id file && is_plain how) ≡ false
opens_plain s Plain file id none some = and_left (nat_eq id file) true (ne_eqb id file (λ same. not_without s file id some none (sym same)))
opens_plain s Direct file id none some = and_right (nat_eq id file) false refl

spares_plain : (s : Store) (call : Call) (e : Entry) (file : ℕ) → ((rule : EntryRule) → FitsStore s (place_in s call (at_of e)) e rule) →
    has_rights_on s file ≡ true → Spares (is_plain_of file) s e
spares_plain s call (Opened at id fd mode how) file keeps some = opens_plain s how file id (keeps Rights) some
spares_plain s call (Attached at fd part) file keeps some = λ d is fails. fails
spares_plain s call (Cleared at owner fd part) file keeps some = λ d is fails. fails
spares_plain s call (Detached at owner fd part) file keeps some = λ d is fails. fails
spares_plain s call e file keeps some = tt

pub rights_keep_files : RightsKeepFiles
rights_keep_files v script before s call e file next some =
    let p = place_in s call (at_of e) in
    let t = effect_of s p e in
    let valid : Valid s = histories_keep_valid v script before s next.history in
    let place = descriptor-place (is_attached_of file) s some in
    let right = attached_slot file (descriptor_at s place.0 place.1) place.2 in
    let sound = valid.descriptors place.0 place.1 right.0 right.1 in
    let there : IsSome (file_in s file) = subst (λ (id : ℕ). IsSome (file_in s id)) right.2 sound.of_file in
    let none : has_plain s file ≡ false = subst (λ (id : ℕ). has_plain s id ≡ false) right.2 (sound.no_plain right.3) in
    let stays : FileStays s file (after_change s e) = file_with_rights_stays s call e file next.keeps there some in
    let same : file_in t file ≡ file_in (after_change s e) file =
    ap (λ (files : List (Option Inode)). inode_at files file) (effect_of-files s p e).files in
    record {
      is_there = subst IsSome (sym same) stays.is_there;
      blocks =
          subst (λ (slot : Option Inode). (index block : ℕ) → slice_get (blocks_in s file) index ≡ Some block →
          slice_get (blocks_of_slot slot) index ≡ Some block) (sym same) stays.blocks;
      size = subst (λ (slot : Option Inode). size_in s file ≤ option_map_or (λ (f : Inode). f.size) slot 0) (sym same) stays.size;
      no_plain =
          is_some-first_holder (is_plain_of file) 0 t.opens
          ∙ none-after (is_plain_of file) s p e (plain-ignores file) (spares_plain s call e file next.keeps some)
          (sym (is_some-first_holder (is_plain_of file) 0 s.opens) ∙ none);
    }
