-- What stands in the slot of a descriptor after an entry.
use Rattle.std.proofs.Common.{◌≡◌, ℕ, zero, suc, Bool, true, false, List, [], ◌∷◌, Option, None, Some, ◌⊎◌, inl, inr, refl, sym, ap, ◌∙◌, ⊎_elim}
use Rattle.std.specs.Prelude.{slice_index_or, slice_set}
use Rattle.std.specs.Option.{option_map, option_map_or}
use Rattle.std.proofs.lemmas.Bool.{false≢true}
use Rattle.std.proofs.lemmas.List.Quantifiers.{position-Some}
use Rattle.bd_base.specs.declared.script.Call.{Call}
use Rattle.bd_entry.specs.declared.entry.Entry.{Entry}
use Rattle.bd_entry.specs.declared.entry.Entry.TheVariants.{Access, Attached, Cleared, Closed, Detached, Opened, Sized}
use Rattle.bd_entry.specs.Calls.{at_of}
use Rattle.bd_entry.specs.Effects.{after_access, after_call, after_change, after_telling, attach, clear, detach, new_descriptor, with_descriptor_of_call, with_known_size, with_size, with_told_size}
use Rattle.bd_entry.specs.Rules.{place_in}
use Rattle.bd_entry.specs.RulesOfRights.{HasRightDescriptor}
use Rattle.bd_entry.specs.Store.{Descriptor, Store, descriptor_at, in_slot, is_empty_slot, lowest_fd, slots_of, with_descriptor, with_slot, with_work}

-- ---- one slot of many

-- what stands in a list with one element set: what stood there, or the new one
pub index_or-set_cases : {X : Type 0} (xs : List X) (i : ℕ) (x : X) (j : ℕ) (none : X) →
    (slice_index_or (slice_set xs i x) j none ≡ slice_index_or xs j none) ⊎ ((j ≡ i) × (slice_index_or (slice_set xs i x) j none ≡ x))
index_or-set_cases [] i x j none = inl refl
index_or-set_cases (y ∷ xs) zero x zero none = inr (refl, refl)
index_or-set_cases (y ∷ xs) zero x (suc j) none = inl refl
index_or-set_cases (y ∷ xs) (suc i) x zero none = inl refl
index_or-set_cases (y ∷ xs) (suc i) x (suc j) none =
    ⊎_elim (λ same. inl same) (λ new. inr (ap suc new.0, new.1)) (index_or-set_cases xs i x j none)

-- the same of descriptors
pub slot-set_cases : (s : Store) (p f : ℕ) (slot : Option Descriptor) (process fd : ℕ) →
    (descriptor_at (with_slot s p f slot) process fd ≡ descriptor_at s process fd)
    ⊎ ((process ≡ p) × (fd ≡ f) × (descriptor_at (with_slot s p f slot) process fd ≡ slot))
slot-set_cases s p f slot process fd =
    let row = slice_set (slots_of s p) f slot in
    ⊎_elim
    (λ same. inl (ap (λ (slots : List (Option Descriptor)). in_slot slots fd) same))
    (λ new.
    let there : descriptor_at (with_slot s p f slot) process fd ≡ in_slot row fd = ap (λ (slots : List (Option Descriptor)). in_slot slots fd) new.1 in
    ⊎_elim
    (λ same. inl (there ∙ same ∙ ap (λ (n : ℕ). in_slot (slots_of s n) fd) (sym new.0)))
    (λ set. inr (new.0, set.0, there ∙ set.1))
    (index_or-set_cases (slots_of s p) f slot fd None))
    (index_or-set_cases s.opens p row process [])

-- the same of a changed descriptor
pub change-cases : (s : Store) (p f : ℕ) (change : Descriptor → Descriptor) (process fd : ℕ) →
    (descriptor_at (with_descriptor s p f change) process fd ≡ descriptor_at s process fd)
    ⊎ ((process ≡ p) × (fd ≡ f) × (descriptor_at (with_descriptor s p f change) process fd ≡ option_map change (descriptor_at s process fd)))
change-cases s p f change process fd =
    ⊎_elim
    (λ same. inl same)
    (λ new.
    let here : descriptor_at s p f ≡ descriptor_at s process fd =
    ap (λ (n : ℕ). descriptor_at s n f) (sym new.0) ∙ ap (descriptor_at s process) (sym new.1) in
    inr (new.0, new.1, new.2 ∙ ap (option_map change) here))
    (slot-set_cases s p f (option_map change (descriptor_at s p f)) process fd)

-- what stands where one element was set: the new one, or still nothing
index_or-set_here : {X : Type 0} (xs : List X) (i : ℕ) (x none : X) →
    (slice_index_or (slice_set xs i x) i none ≡ x) ⊎ ((slice_index_or xs i none ≡ none) × (slice_index_or (slice_set xs i x) i none ≡ none))
index_or-set_here [] i x none = inr (refl, refl)
index_or-set_here (y ∷ xs) zero x none = inl refl
index_or-set_here (y ∷ xs) (suc i) x none = index_or-set_here xs i x none

-- a changed descriptor is what it was, changed
pub change-here : (s : Store) (p f : ℕ) (change : Descriptor → Descriptor) →
    descriptor_at (with_descriptor s p f change) p f ≡ option_map change (descriptor_at s p f)
change-here s p f change =
    let slot = option_map change (descriptor_at s p f) in
    let row = slice_set (slots_of s p) f slot in
    ⊎_elim
    (λ there.
    ap (λ (slots : List (Option Descriptor)). in_slot slots f) there
    ∙ ⊎_elim (λ set. set) (λ none. none.1 ∙ sym (ap (option_map change) none.0)) (index_or-set_here (slots_of s p) f slot None))
    (λ none.
    ap (λ (slots : List (Option Descriptor)). in_slot slots f) none.1
    ∙ sym (ap (λ (slots : List (Option Descriptor)). option_map change (in_slot slots f)) none.0))
    (index_or-set_here s.opens p row [])

-- ---- the own change of an entry

-- a descriptor keeps its file, its mode, its way and its sizes
pub record Keeps (d new : Descriptor) : Type 0 where
  pub file : new.file ≡ d.file
  pub mode : new.mode ≡ d.mode
  pub how : new.how ≡ d.how
  pub known : new.known ≡ d.known
  pub told : new.told ≡ d.told

-- so does each, by this change
abbrev pub KeepsEach : (Descriptor → Descriptor) → Type 0
KeepsEach change = (d : Descriptor) → Keeps d (change d)

-- what stands in a slot is what stood there, with its file, mode, way and sizes kept
abbrev pub Stays : Option Descriptor → Option Descriptor → Type 0
Stays old slot = (change : Descriptor → Descriptor) × KeepsEach change × (slot ≡ option_map change old)

-- an empty slot has a new descriptor, which knows what it was told
abbrev pub IsNew : Option Descriptor → Option Descriptor → Type 0
IsNew old slot = (old ≡ None) × ((d : Descriptor) × (slot ≡ Some d) × (d.known ≡ d.told))

-- whether the entry closes a descriptor
abbrev pub is_close : Entry → Bool
is_close (Closed at fd) = true
is_close e = false

-- an entry that closes emptied a slot of its process
abbrev pub IsGone : Entry → ℕ → Option Descriptor → Type 0
IsGone e process slot = (is_close e ≡ true) × (process ≡ (at_of e).process) × (slot ≡ None)

-- what became of a slot
abbrev pub Becomes : Entry → ℕ → Option Descriptor → Option Descriptor → Type 0
Becomes e process old slot = Stays old slot ⊎ (IsNew old slot ⊎ IsGone e process slot)

same_slot : (old slot : Option Descriptor) → slot ≡ old → Stays old slot
same_slot None slot same = (λ d. d, λ d. record { file = refl; mode = refl; how = refl; known = refl; told = refl }, same)
same_slot (Some d) slot same = (λ d. d, λ d. record { file = refl; mode = refl; how = refl; known = refl; told = refl }, same)

changed_slot : (s : Store) (p f : ℕ) (change : Descriptor → Descriptor) → KeepsEach change → (process fd : ℕ) →
    Stays (descriptor_at s process fd) (descriptor_at (with_descriptor s p f change) process fd)
changed_slot s p f change keeps process fd =
    ⊎_elim
    (λ same. same_slot (descriptor_at s process fd) (descriptor_at (with_descriptor s p f change) process fd) same)
    (λ new. (change, keeps, new.2))
    (change-cases s p f change process fd)

-- the lowest free descriptor is free
pub lowest_fd-free : (s : Store) (process fd : ℕ) → lowest_fd s process ≡ Some fd → descriptor_at s process fd ≡ None
lowest_fd-free s process fd lowest = empty (descriptor_at s process fd) (position-Some is_empty_slot (slots_of s process) fd None lowest).1
  where
    empty : (slot : Option Descriptor) → is_empty_slot slot ≡ true → slot ≡ None
    empty None is = refl
    empty (Some d) is = absurd (false≢true is)

-- the size of a file changes no descriptors
pub sized_opens : (s : Store) (size : ℕ) (slot : Option Descriptor) →
    (option_map_or (λ (d : Descriptor). with_size s d.file size) slot s).opens ≡ s.opens
sized_opens s size None = refl
sized_opens s size (Some d) = refl

pub access_opens : (s : Store) (wrote : Bool) (block : Option ℕ) (lo : ℕ) (bytes : List ℕ) → (after_access s wrote block lo bytes).opens ≡ s.opens
access_opens s true block lo bytes = refl
access_opens s false block lo bytes = refl

same_opens : (e : Entry) (s t : Store) (process fd : ℕ) → t.opens ≡ s.opens →
    Becomes e process (descriptor_at s process fd) (descriptor_at t process fd)
same_opens e s t process fd same =
    inl (same_slot (descriptor_at s process fd) (descriptor_at t process fd)
    (ap (λ (opens : List (List (Option Descriptor))). in_slot (slice_index_or opens process []) fd) same))

-- an entry leaves what stands in a slot, or fills it where it is empty, or empties it
pub after_change-becomes : (s : Store) (call : Call) (e : Entry) → HasRightDescriptor s (place_in s call (at_of e)) e → (process fd : ℕ) →
    Becomes e process (descriptor_at s process fd) (descriptor_at (after_change s e) process fd)
after_change-becomes s call (Opened at file f mode how) lowest process fd =
    let e = Opened at file f mode how in
    ⊎_elim
    (λ same. inl (same_slot (descriptor_at s process fd) (descriptor_at (after_change s e) process fd) same))
    (λ new.
    let here : descriptor_at s process fd ≡ descriptor_at s at.process f =
    ap (λ (n : ℕ). descriptor_at s n fd) new.0 ∙ ap (descriptor_at s at.process) new.1 in
    let opened : Descriptor = record { file = file; mode = mode; how = how; attached = []; cleared = []; known = 0; told = 0 } in
    inr (inl (here ∙ lowest_fd-free s at.process f lowest, (opened, new.2, refl))))
    (slot-set_cases s at.process f (new_descriptor e) process fd)
after_change-becomes s call (Attached at f part) fits process fd =
    inl (changed_slot s at.process f (attach part) (λ d. record { file = refl; mode = refl; how = refl; known = refl; told = refl }) process fd)
after_change-becomes s call (Cleared at owner f part) fits process fd =
    inl (changed_slot s owner f (clear part) (λ d. record { file = refl; mode = refl; how = refl; known = refl; told = refl }) process fd)
after_change-becomes s call (Detached at owner f part) fits process fd =
    inl (changed_slot s owner f (detach part) (λ d. record { file = refl; mode = refl; how = refl; known = refl; told = refl }) process fd)
after_change-becomes s call (Closed at f) fits process fd =
    let e = Closed at f in
    ⊎_elim
    (λ same. inl (same_slot (descriptor_at s process fd) (descriptor_at (after_change s e) process fd) same))
    (λ new. inr (inr (refl, new.0, new.2)))
    (slot-set_cases s at.process f None process fd)
after_change-becomes s call (Access at piece f file index block range wrote way bytes) fits process fd =
    same_opens (Access at piece f file index block range wrote way bytes) s (after_access s wrote block range.lo bytes) process fd
    (access_opens s wrote block range.lo bytes)
after_change-becomes s call (Sized at f size) fits process fd =
    same_opens (Sized at f size) s (option_map_or (λ (d : Descriptor). with_size s d.file size) (descriptor_at s at.process f) s) process fd
    (sized_opens s size (descriptor_at s at.process f))
after_change-becomes s call e fits process fd = same_opens e s (after_change s e) process fd refl

-- ---- the descriptor of the call

-- it is changed, where it is open; another stays
pub of_call-cases : (s : Store) (p : ℕ) (of : Option ℕ) (change : Descriptor → Descriptor) (process fd : ℕ) →
    (descriptor_at (with_descriptor_of_call s p of change) process fd ≡ descriptor_at s process fd)
    ⊎ ((process ≡ p) × (of ≡ Some fd)
    × (descriptor_at (with_descriptor_of_call s p of change) process fd ≡ option_map change (descriptor_at s process fd)))
of_call-cases s p None change process fd = inl refl
of_call-cases s p (Some f) change process fd =
    ⊎_elim (λ same. inl same) (λ new. inr (new.0, ap Some (sym new.1), new.2)) (change-cases s p f change process fd)

-- what became of a slot as its descriptor was told a size
pub after_telling-cases : (tells : Bool) (s : Store) (p : ℕ) (of : Option ℕ) (process fd : ℕ) →
    (descriptor_at (after_telling tells s p of) process fd ≡ descriptor_at s process fd)
    ⊎ ((process ≡ p) × (of ≡ Some fd)
    × (descriptor_at (after_telling tells s p of) process fd ≡ option_map (with_told_size s) (descriptor_at s process fd)))
after_telling-cases true s p of process fd = of_call-cases s p of (with_told_size s) process fd
after_telling-cases false s p of process fd = inl refl

-- what became of a slot as a call went on or ended
pub after_call-cases : (ends : Bool) (s : Store) (p : ℕ) (of : Option ℕ) (entries : List Entry) (process fd : ℕ) →
    (descriptor_at (after_call ends s p of entries) process fd ≡ descriptor_at s process fd)
    ⊎ ((process ≡ p) × (of ≡ Some fd) × (ends ≡ true)
    × (descriptor_at (after_call ends s p of entries) process fd ≡ option_map with_known_size (descriptor_at s process fd)))
after_call-cases true s p of entries process fd =
    ⊎_elim (λ same. inl same) (λ new. inr (new.0, new.1, refl, new.2)) (of_call-cases (with_work s p []) p of with_known_size process fd)
after_call-cases false s p of entries process fd = inl refl

-- the descriptor of a call that ended knows what it was told
pub after_call-ended : (s : Store) (p fd : ℕ) (of : Option ℕ) (entries : List Entry) → of ≡ Some fd →
    descriptor_at (after_call true s p of entries) p fd ≡ option_map with_known_size (descriptor_at s p fd)
after_call-ended s p fd of entries is =
    ap (λ (o : Option ℕ). descriptor_at (after_call true s p o entries) p fd) is ∙ change-here (with_work s p []) p fd with_known_size
