-- Tests of descriptors that no slot of a store passes, as an entry changes the store.
use Rattle.std.proofs.Common.{◌≡◌, ℕ, zero, suc, Bool, true, false, List, [], ◌∷◌, ◌++◌, Option, None, Some, refl, ap, ◌∙◌, ⊎_elim}
use Rattle.std.specs.Prelude.{slice_index_or, slice_set}
use Rattle.std.specs.Option.{option_map}
use Rattle.std.specs.List.{list_any}
use Rattle.std.proofs.lemmas.Bool.{false≢true, or_cases, or_parts}
use Rattle.bd_entry.specs.declared.entry.Entry.{Entry}
use Rattle.bd_entry.specs.declared.entry.Entry.TheVariants.{Access, Attached, Cleared, Closed, Detached, Opened, Sized}
use Rattle.bd_entry.specs.Calls.{Place, fd_of_call, is_ended_by}
use Rattle.bd_entry.specs.Effects.{after_call, after_change, after_telling, attach, clear, detach, effect_of, new_descriptor, tells_size, with_descriptor_of_call, with_known_size, with_told_size}
use Rattle.bd_entry.specs.Store.{Descriptor, Store, descriptor_at, size_in, slots_of, with_descriptor, with_slot, with_work}
use Rattle.bd_entry.proofs.DescriptorSteps.{access_opens, sized_opens}
use Rattle.bd_entry.proofs.Slots.{none_row, none_set}

-- a test that an empty slot does not pass, and that does not look at sizes
pub record IgnoresSizes (test : Option Descriptor → Bool) : Type 0 where
  pub none : test None ≡ false
  pub known : (d : Descriptor) (size : ℕ) → test (Some (record d { known = size })) ≡ test (Some d)
  pub told : (d : Descriptor) (size : ℕ) → test (Some (record d { told = size })) ≡ test (Some d)

-- no descriptor of the store passes the test
abbrev pub NonePasses : (Option Descriptor → Bool) → Store → Type 0
NonePasses test s = list_any (list_any test) s.opens ≡ false

-- a change that leaves a descriptor failing the test
abbrev pub LeavesFailing : (Option Descriptor → Bool) → Option Descriptor → (Descriptor → Descriptor) → Type 0
LeavesFailing test slot change = (d : Descriptor) → slot ≡ Some d → test (Some d) ≡ false → test (Some (change d)) ≡ false

none-with_slot : (test : Option Descriptor → Bool) (s : Store) (p f : ℕ) (slot : Option Descriptor) → NonePasses test s → test slot ≡ false →
    NonePasses test (with_slot s p f slot)
none-with_slot test s p f slot none new =
    none_set (list_any test) s.opens p (slice_set (slots_of s p) f slot) none (none_set test (slots_of s p) f slot (none_row test s.opens p none) new)

-- what stands in a slot does not pass
none-at : (test : Option Descriptor → Bool) (slots : List (Option Descriptor)) (f : ℕ) → test None ≡ false → list_any test slots ≡ false →
    test (slice_index_or slots f None) ≡ false
none-at test [] f empty none = empty
none-at test (slot ∷ slots) zero empty none = (or_parts (test slot) (list_any test slots) none).0
none-at test (slot ∷ slots) (suc f) empty none = none-at test slots f empty (or_parts (test slot) (list_any test slots) none).1

none-changed : (test : Option Descriptor → Bool) (s : Store) (p f : ℕ) (change : Descriptor → Descriptor) → test None ≡ false →
    LeavesFailing test (descriptor_at s p f) change → NonePasses test s → NonePasses test (with_descriptor s p f change)
none-changed test s p f change empty leaves none =
    none-with_slot test s p f (option_map change (descriptor_at s p f)) none
    (by (descriptor_at s p f) leaves (none-at test (slots_of s p) f empty (none_row test s.opens p none)))
  where
    by : (slot : Option Descriptor) → LeavesFailing test slot change → test slot ≡ false → test (option_map change slot) ≡ false
    by None leaves fails = empty
    by (Some d) leaves fails = leaves d refl fails

-- what is left to see of an entry's own change
abbrev pub Spares : (Option Descriptor → Bool) → Store → Entry → Type 0
Spares test s (Opened at file fd mode how) = test (new_descriptor (Opened at file fd mode how)) ≡ false
Spares test s (Attached at fd part) = LeavesFailing test (descriptor_at s at.process fd) (attach part)
Spares test s (Cleared at owner fd part) = LeavesFailing test (descriptor_at s owner fd) (clear part)
Spares test s (Detached at owner fd part) = LeavesFailing test (descriptor_at s owner fd) (detach part)
Spares test s e = Unit {0}

none-after_change : (test : Option Descriptor → Bool) (s : Store) (e : Entry) → test None ≡ false → Spares test s e → NonePasses test s →
    NonePasses test (after_change s e)
none-after_change test s (Opened at file fd mode how) empty spares none = none-with_slot test s at.process fd _ none spares
none-after_change test s (Attached at fd part) empty spares none = none-changed test s at.process fd (attach part) empty spares none
none-after_change test s (Cleared at owner fd part) empty spares none = none-changed test s owner fd (clear part) empty spares none
none-after_change test s (Detached at owner fd part) empty spares none = none-changed test s owner fd (detach part) empty spares none
none-after_change test s (Closed at fd) empty spares none = none-with_slot test s at.process fd None none empty
none-after_change test s (Access at piece fd file index block range wrote way bytes) empty spares none =
    ap (list_any (list_any test)) (access_opens s wrote block range.lo bytes) ∙ none
none-after_change test s (Sized at fd size) empty spares none =
    ap (list_any (list_any test)) (sized_opens s size (descriptor_at s at.process fd)) ∙ none
none-after_change test s e empty spares none = none

none-of_call : (test : Option Descriptor → Bool) (s : Store) (p : ℕ) (of : Option ℕ) (change : Descriptor → Descriptor) → test None ≡ false →
    ((d : Descriptor) → test (Some (change d)) ≡ test (Some d)) → NonePasses test s → NonePasses test (with_descriptor_of_call s p of change)
none-of_call test s p None change empty same none = none
none-of_call test s p (Some fd) change empty same none = none-changed test s p fd change empty (λ d is fails. same d ∙ fails) none

none-after_telling : (test : Option Descriptor → Bool) (tells : Bool) (s : Store) (p : ℕ) (of : Option ℕ) → IgnoresSizes test → NonePasses test s →
    NonePasses test (after_telling tells s p of)
none-after_telling test true s p of sizes none =
    none-of_call test s p of (with_told_size s) sizes.none (λ d. sizes.told d (size_in s d.file)) none
none-after_telling test false s p of sizes none = none

none-after_call : (test : Option Descriptor → Bool) (ends : Bool) (s : Store) (p : ℕ) (of : Option ℕ) (entries : List Entry) → IgnoresSizes test →
    NonePasses test s → NonePasses test (after_call ends s p of entries)
none-after_call test true s p of entries sizes none =
    none-of_call test (with_work s p []) p of with_known_size sizes.none (λ d. sizes.known d d.told) none
none-after_call test false s p of entries sizes none = none

-- no descriptor passes after an entry where none did before
pub none-after : (test : Option Descriptor → Bool) (s : Store) (p : Place) (e : Entry) → IgnoresSizes test → Spares test s e → NonePasses test s →
    NonePasses test (effect_of s p e)
none-after test s p e sizes spares none =
    let entries = p.before ++ e ∷ [] in
    let of = fd_of_call p.call entries in
    none-after_call test (is_ended_by p.call entries) (after_telling (tells_size e) (after_change s e) p.at.process of) p.at.process of entries sizes
    (none-after_telling test (tells_size e) (after_change s e) p.at.process of sizes (none-after_change test s e sizes.none spares none))

-- ---- a slot that passes

-- where some element passes, one is found by its place
pub list_any-place : {X : Type 0} (test : X → Bool) (xs : List X) (none : X) → list_any test xs ≡ true →
    (i : ℕ) × (test (slice_index_or xs i none) ≡ true)
list_any-place test [] none some = absurd (false≢true some)
list_any-place test (x ∷ xs) none some =
    ⊎_elim
    (λ here. (0, here))
    (λ later. let rest = list_any-place test xs none later in (suc rest.0, rest.1))
    (or_cases (test x) (list_any test xs) some)

-- where some descriptor passes, one is found by its process and number
pub descriptor-place : (test : Option Descriptor → Bool) (s : Store) → list_any (list_any test) s.opens ≡ true →
    (process : ℕ) × (fd : ℕ) × (test (descriptor_at s process fd) ≡ true)
descriptor-place test s some =
    let row = list_any-place (list_any test) s.opens [] some in
    let slot = list_any-place test (slots_of s row.0) None row.1 in
    (row.0, slot.0, slot.1)
