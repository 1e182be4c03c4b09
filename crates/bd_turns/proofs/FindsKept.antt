-- What a walk missed for may be noted still, after an entry of another process.
use Rattle.std.proofs.Common.{◌≡◌, ◌≢◌, ◌⊎◌, inl, inr, ℕ, ◌+◌, ◌*◌, ◌≤◌, Bool, true, false, List, [], ◌∷◌, ◌++◌, Option, None, Some, arith, refl, sym, ap, ◌∙◌, subst, ⊎_elim}
use Rattle.std.specs.Option.{option_map}
use Rattle.std.proofs.lemmas.Bool.{both_ways, cases_eq}
use Rattle.bd_base.specs.declared.journal.At.{At}
use Rattle.bd_base.specs.declared.journal.Found.{Found}
use Rattle.bd_base.specs.declared.journal.Found.TheVariants.{NoDirectory, NoRight, NoEntry, Beyond}
use Rattle.bd_base.specs.declared.key.Key.{Key}
use Rattle.bd_base.specs.declared.limits.TheConstants.{BLOCK_SIZE}
use Rattle.bd_base.specs.Pieces.{Piece}
use Rattle.bd_entry.specs.declared.entry.Entry.{Entry}
use Rattle.bd_entry.specs.declared.entry.Entry.TheVariants.{Attached, Cleared, Closed, Detached, Opened}
use Rattle.bd_entry.specs.Calls.{Place, at_of, fd_of_call, is_ended_by}
use Rattle.bd_entry.specs.Effects as effects
use Rattle.bd_entry.specs.Effects.{after_change, after_telling, effect_of, new_descriptor, tells_size}
use Rattle.bd_entry.specs.RulesOfRights.{MayMiss, MayWrite, Stands, part_of}
use Rattle.bd_entry.specs.Store.{Descriptor, Store, descriptor_at, has_part, in_slot, limit_in, slots_of}
use Rattle.bd_entry.proofs.DescriptorSteps.{after_call-cases, after_telling-cases, change-cases, slot-set_cases}
use Rattle.bd_turns.proofs.RightsFit.{SlotAfter, here, apart, joined_here, joined_other, key_at, left_here, left_other, slot_after}
use Rattle.bd_turns.proofs.RightsSteps.{untouched_opens}

-- ---- one descriptor

-- whether the entry detaches the right of this key
abbrev pub Detaches : Key → Entry → Type 0
Detaches key (Detached at owner fd part) = key ≡ key_at owner fd part
Detaches key e = ⊥

-- a descriptor keeps its file, its mode and the size that is known, no right on the part comes to stand, and one that is
-- attached stays so where it is not detached
pub record KeepsFinds (key : Key) (e : Entry) (d new : Descriptor) : Type 0 where
  pub file : new.file ≡ d.file
  pub mode : new.mode ≡ d.mode
  pub known : new.known ≡ d.known
  pub stands : Stands key.part new → Stands key.part d
  pub attached : ¬ Detaches key e → has_part key.part d.attached ≡ true → has_part key.part new.attached ≡ true

-- so does what stands in a slot
abbrev pub SlotKeeps : Key → Entry → Option Descriptor → Option Descriptor → Type 0
SlotKeeps key e None None = Unit {0}
SlotKeeps key e None (Some new) = ⊥
SlotKeeps key e (Some d) None = ⊥
SlotKeeps key e (Some d) (Some new) = KeepsFinds key e d new

slot_itself : (key : Key) (e : Entry) (slot new : Option Descriptor) → new ≡ slot → SlotKeeps key e slot new
slot_itself key e slot new same = subst (SlotKeeps key e slot) (sym same) (by slot)
  where
    by : (slot : Option Descriptor) → SlotKeeps key e slot slot
    by None = tt
    by (Some d) = record { file = refl; mode = refl; known = refl; stands = λ is. is; attached = λ stays is. is }

slot_changed : (key : Key) (e : Entry) (change : Descriptor → Descriptor) → ((d : Descriptor) → KeepsFinds key e d (change d)) →
    (slot new : Option Descriptor) → new ≡ option_map change slot → SlotKeeps key e slot new
slot_changed key e change keeps slot new same = subst (SlotKeeps key e slot) (sym same) (by slot)
  where
    by : (slot : Option Descriptor) → SlotKeeps key e slot (option_map change slot)
    by None = tt
    by (Some d) = keeps d

-- a clear lets no right stand
clear_keeps : (key : Key) (e : Entry) (part : ℕ) (d : Descriptor) → KeepsFinds key e d (effects.clear part d)
clear_keeps key e part d = record {
  file = refl;
  mode = refl;
  known = refl;
  stands = λ is. record { attached = is.attached; not_cleared = uncleared (cases_eq key.part part) is.not_cleared };
  attached = λ stays is. is;
}
  where
    uncleared : (key.part ≡ part) ⊎ (key.part ≢ part) → has_part key.part (effects.clear part d).cleared ≡ false → has_part key.part d.cleared ≡ false
    uncleared (inl same) none =
        absurd (both_ways (has_part key.part (effects.clear part d).cleared) none
        (ap (λ (n : ℕ). has_part n (effects.clear part d).cleared) same ∙ joined_here part d.cleared))
    uncleared (inr other) none = sym (joined_other key.part part d.cleared other) ∙ none

-- a detach lets none stand, and leaves the others attached
detach_keeps : (key : Key) (at : At) (owner fd part : ℕ) (d : Descriptor) → key.process ≡ owner → key.fd ≡ fd →
    KeepsFinds key (Detached at owner fd part) d (effects.detach part d)
detach_keeps key at owner fd part d of_owner at_fd = record {
  file = refl;
  mode = refl;
  known = refl;
  stands = λ is.
      elim (cases_eq key.part part) [
        | inl same ↦ absurd (gone same is.attached)
        | inr other ↦
            record {
              attached = sym (left_other key.part part d.attached other) ∙ is.attached;
              not_cleared = sym (left_other key.part part d.cleared other) ∙ is.not_cleared;
            }
      ];
  attached = λ stays is.
      elim (cases_eq key.part part) [
        | inl same ↦ absurd (stays (λ i. record { process = of_owner i; fd = at_fd i; part = same i }))
        | inr other ↦ left_other key.part part d.attached other ∙ is
      ];
}
  where
    gone : key.part ≡ part → has_part key.part (effects.detach part d).attached ≡ true → ⊥
    gone same is =
        both_ways (has_part key.part (effects.detach part d).attached)
        (ap (λ (n : ℕ). has_part n (effects.detach part d).attached) same ∙ left_here part d.attached) is

-- ---- the slots of another process

same_slots : (s t : Store) (process fd : ℕ) → t.opens ≡ s.opens → descriptor_at t process fd ≡ descriptor_at s process fd
same_slots s t process fd same = ap (λ (opens : List (List (Option Descriptor))). in_slot (slots_of (record s { opens = opens }) process) fd) same

-- the own change of an entry of another process
changed_by_other : (s : Store) (e : Entry) (process fd part : ℕ) → process ≢ (at_of e).process →
    SlotKeeps (key_at process fd part) e (descriptor_at s process fd) (descriptor_at (after_change s e) process fd)
changed_by_other s (Opened at file f mode how) process fd part other =
    let e = Opened at file f mode how in
    slot_itself (key_at process fd part) e (descriptor_at s process fd) (descriptor_at (after_change s e) process fd)
    (⊎_elim (λ same. same) (λ new. absurd (other new.0)) (slot-set_cases s at.process f (new_descriptor e) process fd))
changed_by_other s (Closed at f) process fd part other =
    let e = Closed at f in
    slot_itself (key_at process fd part) e (descriptor_at s process fd) (descriptor_at (after_change s e) process fd)
    (⊎_elim (λ same. same) (λ new. absurd (other new.0)) (slot-set_cases s at.process f None process fd))
changed_by_other s (Attached at f p) process fd part other =
    let e = Attached at f p in
    slot_itself (key_at process fd part) e (descriptor_at s process fd) (descriptor_at (after_change s e) process fd)
    (⊎_elim (λ same. same) (λ new. absurd (other new.0)) (change-cases s at.process f (effects.attach p) process fd))
changed_by_other s (Cleared at owner f p) process fd part other = by (slot_after s owner f (effects.clear p) process fd)
  where
    by : SlotAfter s owner f (effects.clear p) process fd →
        SlotKeeps (key_at process fd part) (Cleared at owner f p) (descriptor_at s process fd)
        (descriptor_at (after_change s (Cleared at owner f p)) process fd)
    by (here of_owner at_fd is) =
        slot_changed (key_at process fd part) (Cleared at owner f p) (effects.clear p) (clear_keeps (key_at process fd part) (Cleared at owner f p) p) _ _ is
    by (apart differs is) = slot_itself (key_at process fd part) (Cleared at owner f p) _ _ is
changed_by_other s (Detached at owner f p) process fd part other = by (slot_after s owner f (effects.detach p) process fd)
  where
    by : SlotAfter s owner f (effects.detach p) process fd →
        SlotKeeps (key_at process fd part) (Detached at owner f p) (descriptor_at s process fd)
        (descriptor_at (after_change s (Detached at owner f p)) process fd)
    by (here of_owner at_fd is) =
        slot_changed (key_at process fd part) (Detached at owner f p) (effects.detach p)
        (λ d. detach_keeps (key_at process fd part) at owner f p d of_owner at_fd) _ _ is
    by (apart differs is) = slot_itself (key_at process fd part) (Detached at owner f p) _ _ is
changed_by_other s e process fd part other =
    slot_itself (key_at process fd part) e (descriptor_at s process fd) (descriptor_at (after_change s e) process fd)
    (same_slots s (after_change s e) process fd (untouched_opens s e refl))

-- no size is told or known to another process
sizes_of_other : (s : Store) (p : Place) (e : Entry) (process fd : ℕ) → process ≢ p.at.process →
    descriptor_at (effect_of s p e) process fd ≡ descriptor_at (after_change s e) process fd
sizes_of_other s p e process fd other =
    let entries = p.before ++ e ∷ [] in
    let of = fd_of_call p.call entries in
    let told = after_telling (tells_size e) (after_change s e) p.at.process of in
    ⊎_elim (λ same. same) (λ new. absurd (other new.0)) (after_call-cases (is_ended_by p.call entries) told p.at.process of entries process fd)
    ∙ ⊎_elim (λ same. same) (λ new. absurd (other new.0)) (after_telling-cases (tells_size e) (after_change s e) p.at.process of process fd)

-- the slots of another process keep what its walks may find
pub slots_of_other : (s : Store) (p : Place) (e : Entry) (process fd part : ℕ) → (at_of e).process ≡ p.at.process → process ≢ p.at.process →
    SlotKeeps (key_at process fd part) e (descriptor_at s process fd) (descriptor_at (effect_of s p e) process fd)
slots_of_other s p e process fd part of other =
    subst (SlotKeeps (key_at process fd part) e (descriptor_at s process fd)) (sym (sizes_of_other s p e process fd other))
    (changed_by_other s e process fd part (λ same. other (same ∙ of)))

-- ---- what may be noted

-- what a walk may have found by a descriptor it may have found by the one after
pub may_miss_still : (s t : Store) (key : Key) (e : Entry) (writes : Bool) (piece : Piece) (found : Found) (slot new : Option Descriptor) →
    SlotKeeps key e slot new → key.part ≡ part_of piece.index → (found ≢ NoDirectory → ¬ Detaches key e) →
    ((d : Descriptor) → slot ≡ Some d → has_part key.part d.attached ≡ true → limit_in s d.file piece.index ≤ limit_in t d.file piece.index) →
    MayMiss s writes slot found piece → MayMiss t writes new found piece
may_miss_still s t key e writes piece NoDirectory None None keeps part stays limit may = may
may_miss_still s t key e writes piece NoRight None None keeps part stays limit may = may
may_miss_still s t key e writes piece NoEntry None None keeps part stays limit may = may
may_miss_still s t key e writes piece (Beyond n) None None keeps part stays limit may = may
may_miss_still s t key e writes piece found None (Some new) keeps part stays limit may = absurd keeps
may_miss_still s t key e writes piece found (Some d) None keeps part stays limit may = absurd keeps
may_miss_still s t key e writes piece NoDirectory (Some d) (Some new) keeps part stays limit may =
    λ stands. may (subst (λ (n : ℕ). Stands n d) part (keeps.stands (subst (λ (n : ℕ). Stands n new) (sym part) stands)))
may_miss_still s t key e writes piece NoRight (Some d) (Some new) keeps part stays limit may = (
  ap (λ (n : ℕ). has_part n new.attached) (sym part)
      ∙ keeps.attached (stays (λ same. let no_way : ⊥ = cc in no_way)) (ap (λ (n : ℕ). has_part n d.attached) part ∙ may.0),
  may.1,
  keeps.mode ∙ may.2,
)
may_miss_still s t key e writes piece NoEntry (Some d) (Some new) keeps part stays limit may = (
  ap (λ (n : ℕ). has_part n new.attached) (sym part)
      ∙ keeps.attached (stays (λ same. let no_way : ⊥ = cc in no_way)) (ap (λ (n : ℕ). has_part n d.attached) part ∙ may.0),
  subst (MayWrite writes) (sym keeps.mode) may.1,
  subst (λ (n : ℕ). n ≤ BLOCK_SIZE * piece.index) (sym keeps.known) may.2,
)
may_miss_still s t key e writes piece (Beyond n) (Some d) (Some new) keeps part stays limit may =
    let attached : has_part key.part d.attached ≡ true = ap (λ (n : ℕ). has_part n d.attached) part ∙ may.0 in
    let more : limit_in s d.file piece.index ≤ limit_in t d.file piece.index = limit d refl attached in
    let below : n ≤ limit_in s d.file piece.index = may.4 in
    let within : n ≤ limit_in t d.file piece.index = omega arith in (
      ap (λ (n : ℕ). has_part n new.attached) (sym part) ∙ keeps.attached (stays (λ same. let no_way : ⊥ = cc in no_way)) attached,
      subst (MayWrite writes) (sym keeps.mode) may.1,
      may.2,
      may.3,
      subst (λ (f : ℕ). n ≤ limit_in t f piece.index) (sym keeps.file) within,
      subst (λ (k : ℕ). k ≤ BLOCK_SIZE * piece.index + n) (sym keeps.known) may.5,
    )
