-- The rights on a file and its size after an entry that spares them, and the keys of its rights.
use Rattle.std.proofs.Common.{◌≡◌, ◌≢◌, ◌⊎◌, inl, inr, ℕ, suc, ◌+◌, ◌≤◌, Bool, true, false, ◌||◌, ◌&&◌, cond, List, [], ◌∷◌, ◌++◌, map, length, Option, None, Some, refl, sym, ap, ◌∙◌, subst, arith, ⊎_elim}
use Rattle.std.specs.Prelude.{nat_eq, nat_lt, slice_index_or}
use Rattle.std.specs.Option.{option_map_or}
use Rattle.std.specs.List.{enumerate_from, find, flat_map, list_any}
use Rattle.std.proofs.lemmas.Bool.{and_left, and_right, cases_Bool, eq-eqb, eqb-true, ltb-false, false≢true, ne_eqb, or_cases, or_left, or_parts, or_right}
use Rattle.std.proofs.lemmas.Option.{none-some, same_Some}
use Rattle.bd_base.specs.declared.key.Key.{Key}
use Rattle.bd_base.specs.declared.script.Call.{Call}
use Rattle.bd_base.specs.declared.volume.Inode.{Inode}
use Rattle.bd_base.proofs.FileLists.{inode_at-set_other}
use Rattle.bd_entry.specs.declared.entry.Entry.{Entry}
use Rattle.bd_entry.specs.declared.entry.Entry.TheVariants.{Access, Attached, Cleared, Created, Detached, Extended, Opened, Released, Sized, Unlinked}
use Rattle.bd_entry.specs.Actions.{keys_of_slot, keys_on, keys_where}
use Rattle.bd_entry.specs.Calls.{at_of}
use Rattle.bd_entry.specs.Effects.{after_change, with_size}
use Rattle.bd_entry.specs.Rules.{RightFile, place_in}
use Rattle.bd_entry.specs.RulesOfRights.{HasNoRights}
use Rattle.bd_entry.specs.Store.{Descriptor, Store, descriptor_at, file_in, has_part, has_rights, is_attached_of, size_at, size_in, slots_of, without_part}
use Rattle.bd_entry.proofs.EffectsOnFiles.{effect_of-files}
use Rattle.bd_entry.proofs.NextCloses.{flat-at}
use Rattle.bd_entry.proofs.SlotTests.{IgnoresSizes, Spares, none-after}
use Rattle.bd_entry.proofs.SoundVolumes.{KeepsAll}
use Rattle.bd_turns.proofs.FilesOfCalls.{not_made, store_after}

-- ---- sizes

-- the entry neither changes the size of the file nor removes it
abbrev pub LeavesSize : Store → ℕ → Entry → Type 0
LeavesSize s id (Extended at file to block) = id ≢ file
LeavesSize s id (Released at file index block) = id ≢ file
LeavesSize s id (Sized at fd size) = (d : Descriptor) → descriptor_at s at.process fd ≡ Some d → id ≢ d.file
LeavesSize s id (Unlinked at file) = id ≢ file
LeavesSize s id e = Unit {0}

-- the file is left as it was
pub same_changed : (s : Store) (call : Call) (e : Entry) (id : ℕ) (f : Inode) → KeepsAll s call e → file_in s id ≡ Some f → LeavesSize s id e →
    file_in (after_change s e) id ≡ file_in s id
same_changed s call (Created at file name perms) id f keeps there leaves =
    inode_at-set_other s.files file id _ (not_made s.files file id f (keeps RightFile) there)
same_changed s call (Access at piece fd file index block range true way bytes) id f keeps there leaves = refl
same_changed s call (Access at piece fd file index block range false way bytes) id f keeps there leaves = refl
same_changed s call (Extended at file to block) id f keeps there leaves = inode_at-set_other s.files file id _ leaves
same_changed s call (Released at file index block) id f keeps there leaves = inode_at-set_other s.files file id _ leaves
same_changed s call (Sized at fd size) id f keeps there leaves = by (descriptor_at s at.process fd) (λ d is. leaves d is)
  where
    by : (slot : Option Descriptor) → ((d : Descriptor) → slot ≡ Some d → id ≢ d.file) →
        file_in (option_map_or (λ (d : Descriptor). with_size s d.file size) slot s) id ≡ file_in s id
    by None other = refl
    by (Some d) other = inode_at-set_other s.files d.file id _ (other d refl)
same_changed s call (Unlinked at file) id f keeps there leaves = inode_at-set_other s.files file id None leaves
same_changed s call e id f keeps there leaves = refl

pub size_kept : (s : Store) (call : Call) (e : Entry) (id : ℕ) (f : Inode) → KeepsAll s call e → file_in s id ≡ Some f → LeavesSize s id e →
    size_in (store_after s call e) id ≡ size_in s id
size_kept s call e id f keeps there leaves =
    ap (λ (files : List (Option Inode)). size_at files id) (effect_of-files s (place_in s call (at_of e)) e).files
    ∙ ap (λ (slot : Option Inode). option_map_or (λ (f : Inode). f.size) slot 0) (same_changed s call e id f keeps there leaves)

-- ---- files without rights

-- the entry attaches no right on the file
abbrev pub LeavesUnattached : Store → ℕ → Entry → Type 0
LeavesUnattached s file (Attached at fd part) = (d : Descriptor) → descriptor_at s at.process fd ≡ Some d → d.file ≢ file
LeavesUnattached s file e = Unit {0}

attached-ignores : (file : ℕ) → IgnoresSizes (is_attached_of file)
attached-ignores file = record { none = refl; known = λ d size. refl; told = λ d size. refl }

-- a list with an element is not empty
some_longer : (x : ℕ) (xs : List ℕ) → nat_lt 0 (length (x ∷ xs)) ≡ false → ⊥
some_longer x xs none = let no : length (x ∷ xs) ≤ 0 = ltb-false 0 (length (x ∷ xs)) none in omega arith

-- a set without parts has none without one either
none_without : (part : ℕ) (parts : List ℕ) → nat_lt 0 (length parts) ≡ false → nat_lt 0 (length (without_part part parts)) ≡ false
none_without part [] none = refl
none_without part (x ∷ xs) none = absurd (some_longer x xs none)

spares_attached : (s : Store) (e : Entry) (file : ℕ) → LeavesUnattached s file e → Spares (is_attached_of file) s e
spares_attached s (Opened at other fd mode how) file leaves = and_right (nat_eq other file) false refl
spares_attached s (Attached at fd part) file leaves = λ d is fails. and_left (nat_eq d.file file) _ (ne_eqb d.file file (leaves d is))
spares_attached s (Cleared at owner fd part) file leaves = λ d is fails. fails
spares_attached s (Detached at owner fd part) file leaves =
    λ d is fails.
    ⊎_elim
    (λ same. and_right (nat_eq d.file file) _ (none_without part d.attached (sym (ap (λ (b : Bool). b && has_rights d) same) ∙ fails)))
    (λ other. and_left (nat_eq d.file file) _ other)
    (cases_Bool (nat_eq d.file file))
spares_attached s e file leaves = tt

-- a file without rights has none after an entry that attaches none on it
pub no_rights_kept : (s : Store) (call : Call) (e : Entry) (file : ℕ) → LeavesUnattached s file e → HasNoRights s file → HasNoRights (store_after s call e) file
no_rights_kept s call e file leaves none =
    none-after (is_attached_of file) s (place_in s call (at_of e)) e (attached-ignores file) (spares_attached s e file leaves) none

-- ---- keys

-- where no element of a list passes, nothing is made of any
flat-nothing : {X A : Type 0} (f : ℕ × X → List A) (test : X → Bool) (n : ℕ) (xs : List X) → ((i : ℕ) (x : X) → test x ≡ false → f (i, x) ≡ []) →
    list_any test xs ≡ false → flat_map f (enumerate_from n xs) ≡ []
flat-nothing f test n [] empty none = refl
flat-nothing f test n (x ∷ xs) empty none =
    let parts = or_parts (test x) (list_any test xs) none in
    ap (λ (front : List _). front ++ flat_map f (enumerate_from (n + 1) xs)) (empty n x parts.0) ∙ flat-nothing f test (n + 1) xs empty parts.1

slot-nothing : (file process fd : ℕ) (slot : Option Descriptor) → is_attached_of file slot ≡ false →
    keys_of_slot (λ d. nat_eq d.file file) process fd slot ≡ []
slot-nothing file process fd None none = refl
slot-nothing file process fd (Some d) none = by (nat_eq d.file file) d.attached none
  where
    by : (b : Bool) (parts : List ℕ) → let key : ℕ → Key = λ part. record { process = process; fd = fd; part = part } in
        (b && nat_lt 0 (length parts)) ≡ false → cond b (map key parts) [] ≡ []
    by true [] none = refl
    by true (part ∷ parts) none = absurd (some_longer part parts none)
    by false parts none = refl

-- a file without rights has no key
pub no_keys : (s : Store) (file : ℕ) → HasNoRights s file → keys_on s file ≡ []
no_keys s file none =
    let test : Descriptor → Bool = λ d. nat_eq d.file file in
    flat-nothing (λ row. flat_map (λ slot. keys_of_slot test row.0 slot.0 slot.1) (enumerate_from 0 row.1)) (list_any (is_attached_of file)) 0 s.opens
    (λ process row fails.
    flat-nothing (λ slot. keys_of_slot test process slot.0 slot.1) (is_attached_of file) 0 row (λ fd slot. slot-nothing file process fd slot) fails)
    none

-- the key is that of a right of a descriptor that passes the test
pub record IsKeyWhere (test : Descriptor → Bool) (s : Store) (key : Key) : Type 0 where
  pub d : Descriptor
  pub is : descriptor_at s key.process key.fd ≡ Some d
  pub passes : test d ≡ true
  pub attached : has_part key.part d.attached ≡ true

-- what is made of a list is made of an element of it
made-of : {X A : Type 0} (P : A → Type 0) (f : ℕ × X → List A) (n : ℕ) (xs : List X) (check : A → Bool) (a : A) →
    find check (flat_map f (enumerate_from n xs)) ≡ Some a → (none : X) →
    ((i : ℕ) → find check (f (n + i, slice_index_or xs i none)) ≡ Some a → P a) → P a
made-of P f n [] check a found none each = absurd (none-some a found)
made-of P f n (x ∷ xs) check a found none each =
    ⊎_elim
    (λ here. each 0 (subst (λ (m : ℕ). find check (f (m, x)) ≡ Some a) (omega arith) here))
    (λ later.
    made-of P f (n + 1) xs check a later none
    (λ i is.
    let same : n + 1 + i ≡ n + suc i = omega arith in
    each (suc i) (subst (λ (m : ℕ). find check (f (m, slice_index_or xs i none)) ≡ Some a) same is)))
    (find_append (f (n, x)) (flat_map f (enumerate_from (n + 1) xs)) found)
  where
    find_append : (front back : List _) → find check (front ++ back) ≡ Some a → (find check front ≡ Some a) ⊎ (find check back ≡ Some a)
    find_append [] back is = inr is
    find_append (y ∷ front) back is = by (check y) is (find_append front back)
      where
        by : (b : Bool) → cond b (Some y) (find check (front ++ back)) ≡ Some a →
            (find check (front ++ back) ≡ Some a → (find check front ≡ Some a) ⊎ (find check back ≡ Some a)) →
            (cond b (Some y) (find check front) ≡ Some a) ⊎ (find check back ≡ Some a)
        by true is rest = inl is
        by false is rest = rest is

-- the first element that passes does pass
pub find-passes : {X : Type 0} (check : X → Bool) (xs : List X) (x : X) → find check xs ≡ Some x → check x ≡ true
find-passes check [] x is = absurd (none-some x is)
find-passes check (y ∷ xs) x is = by (check y) refl is (find-passes check xs x)
  where
    by : (b : Bool) → check y ≡ b → cond b (Some y) (find check xs) ≡ Some x → (find check xs ≡ Some x → check x ≡ true) → check x ≡ true
    by true passes is later = subst (λ z. check z ≡ true) (same_Some y x is) passes
    by false fails is later = later is

-- a key that is found among those of a descriptor is that of one of its parts
found_part : (check : Key → Bool) (key : Key) (process fd : ℕ) (parts : List ℕ) →
    let make : ℕ → Key = λ part. record { process = process; fd = fd; part = part } in
    find check (map make parts) ≡ Some key → (part : ℕ) × (make part ≡ key) × (has_part part parts ≡ true)
found_part check key process fd [] is = absurd (none-some key is)
found_part check key process fd (part ∷ parts) is =
    let make : ℕ → Key = λ other. record { process = process; fd = fd; part = other } in
    of_first (check (make part)) is (found_part check key process fd parts)
  where
    of_first : (b : Bool) → let make : ℕ → Key = λ other. record { process = process; fd = fd; part = other } in
        cond b (Some (make part)) (find check (map make parts)) ≡ Some key →
        (find check (map make parts) ≡ Some key → (other : ℕ) × (make other ≡ key) × (has_part other parts ≡ true)) →
        (other : ℕ) × (make other ≡ key) × (has_part other (part ∷ parts) ≡ true)
    of_first true is later =
        (part, same_Some (record { process = process; fd = fd; part = part }) key is, or_left (nat_eq part part) (has_part part parts) (eq-eqb part part refl))
    of_first false is later = let rest = later is in (rest.0, rest.1, or_right (nat_eq rest.0 part) (has_part rest.0 parts) rest.2)

-- a key that is found among those of descriptors that pass the test
pub key_found : (test : Descriptor → Bool) (s : Store) (check : Key → Bool) (key : Key) → find check (keys_where test s) ≡ Some key → IsKeyWhere test s key
key_found test s check key found =
    made-of (IsKeyWhere test s) (λ row. flat_map (λ slot. keys_of_slot test row.0 slot.0 slot.1) (enumerate_from 0 row.1)) 0 s.opens check key found []
    (λ process in_row.
    made-of (IsKeyWhere test s) (λ slot. keys_of_slot test (0 + process) slot.0 slot.1) 0 (slots_of s process) check key in_row None
    (λ fd in_slot.
    let start : 0 + process ≡ process = omega arith in
    let first : 0 + fd ≡ fd = omega arith in
    by process fd (descriptor_at s process fd) refl
    (subst (λ (q : ℕ). find check (keys_of_slot test q fd (descriptor_at s process fd)) ≡ Some key) start
    (subst (λ (f : ℕ). find check (keys_of_slot test (0 + process) f (descriptor_at s process fd)) ≡ Some key) first in_slot))))
  where
    by : (process fd : ℕ) (slot : Option Descriptor) → descriptor_at s process fd ≡ slot → find check (keys_of_slot test process fd slot) ≡ Some key →
        IsKeyWhere test s key
    by process fd None there is = absurd (none-some key is)
    by process fd (Some d) there is = passing (test d) refl is
      where
        passing : (b : Bool) → test d ≡ b →
            find check (cond b (map (λ part. record { process = process; fd = fd; part = part }) d.attached) []) ≡ Some key → IsKeyWhere test s key
        passing false fails is = absurd (none-some key is)
        passing true passes is =
            let found = found_part check key process fd d.attached is in
            subst (IsKeyWhere test s) found.1 (record { d = d; is = there; passes = passes; attached = found.2 })

-- where no element is found none passes
pub find-none : {X : Type 0} (check : X → Bool) (xs : List X) → find check xs ≡ None → list_any check xs ≡ false
find-none check [] none = refl
find-none check (x ∷ xs) none = by (check x) none (find-none check xs)
  where
    by : (b : Bool) → cond b (Some x) (find check xs) ≡ None → (find check xs ≡ None → list_any check xs ≡ false) → (b || list_any check xs) ≡ false
    by true none later = absurd (none-some x (sym none))
    by false none later = later none

among_parts : (check : Key → Bool) (key : Key) (parts : List ℕ) →
    list_any check (map (λ part. record { process = key.process; fd = key.fd; part = part }) parts) ≡ false → has_part key.part parts ≡ true → check key ≡ false
among_parts check key [] fails has = absurd (false≢true has)
among_parts check key (part ∷ parts) fails has =
    let make : ℕ → Key = λ part. record { process = key.process; fd = key.fd; part = part } in
    let both = or_parts (check (make part)) (list_any check (map make parts)) fails in
    ⊎_elim
    (λ here. subst (λ (n : ℕ). check (make n) ≡ false) (sym (eqb-true key.part part here)) both.0)
    (λ later. among_parts check key parts both.1 later)
    (or_cases (nat_eq key.part part) (has_part key.part parts) has)

-- a key of the right of a descriptor that passes the test is among them: what fails of all fails of it
pub key_among : (test : Descriptor → Bool) (s : Store) (check : Key → Bool) (key : Key) → list_any check (keys_where test s) ≡ false → IsKeyWhere test s key →
    check key ≡ false
key_among test s check key fails there =
    let process : ℕ = key.process in
    let fd : ℕ = key.fd in
    let slots : ℕ × List (Option Descriptor) → List Key =
    λ row. flat_map (λ slot. keys_of_slot test row.0 slot.0 slot.1) (enumerate_from 0 row.1) in
    let start : 0 + process ≡ process = omega arith in
    let first : 0 + fd ≡ fd = omega arith in
    let in_row : list_any check (slots (process, slots_of s process)) ≡ false =
    subst (λ (n : ℕ). list_any check (slots (n, slots_of s process)) ≡ false) start (flat-at slots check 0 s.opens process [] refl fails) in
    let in_slot : list_any check (keys_of_slot test process fd (descriptor_at s process fd)) ≡ false =
    subst (λ (n : ℕ). list_any check (keys_of_slot test process n (descriptor_at s process fd)) ≡ false) first
    (flat-at (λ slot. keys_of_slot test process slot.0 slot.1) check 0 (slots_of s process) fd None refl in_row) in
    let make : ℕ → Key = λ part. record { process = process; fd = fd; part = part } in
    let of_d : list_any check (cond (test there.d) (map make there.d.attached) []) ≡ false =
    subst (λ (slot : Option Descriptor). list_any check (keys_of_slot test process fd slot) ≡ false) there.is in_slot in
    let of_parts = subst (λ (b : Bool). list_any check (cond b (map make there.d.attached) []) ≡ false) there.passes of_d in
    among_parts check key there.d.attached of_parts there.attached
