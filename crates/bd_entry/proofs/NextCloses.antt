-- The next entries of plain opens and closes are legal: where there is no key to revoke, no right is left.
use Rattle.std.proofs.Common.{◌≡◌, ℕ, zero, suc, ◌+◌, Bool, true, false, ◌&&◌, ◌||◌, cond, List, [], ◌∷◌, ◌++◌, map, filter, length, Option, None, Some, refl, sym, ap, ◌∙◌, subst, arith}
use Rattle.std.specs.Prelude.{nat_eq, nat_lt, slice_index_or}
use Rattle.std.specs.Option.{option_map_or}
use Rattle.std.specs.List.{enumerate_from, flat_map, list_any}
use Rattle.std.proofs.lemmas.Bool.{and_from, both_ways, eq-eqb, false≢true, or_from, or_parts}
use Rattle.std.proofs.lemmas.List.Folds.{list_any-append}
use Rattle.std.proofs.lemmas.Option.{same_Some}
use Rattle.bd_base.specs.declared.key.Key.{Key}
use Rattle.bd_base.specs.declared.script.Call.TheVariants.{Close, Enter}
use Rattle.bd_base.specs.declared.script.How.TheVariants as hows
use Rattle.bd_base.specs.declared.script.Mode.{Mode}
use Rattle.bd_entry.specs.declared.act.Act.TheVariants as acts
use Rattle.bd_entry.specs.declared.entry.Entry.{Entry}
use Rattle.bd_entry.specs.declared.entry.Entry.TheVariants as entries
use Rattle.bd_entry.specs.Actions.{entry_of_act, keys_by, keys_of_slot, keys_on, keys_where}
use Rattle.bd_entry.specs.Calls.{Place, is_end_of, is_opened}
use Rattle.bd_entry.specs.NextEntries.{IsLegalAt, NextIsLegal, running}
use Rattle.bd_entry.specs.Refusals.{first_refusal}
use Rattle.bd_entry.specs.Rules.{EntryRule, FitsStore, IsOpen, NotRefused, Rights}
use Rattle.bd_entry.specs.RulesOfContents.{MayBegin}
use Rattle.bd_entry.specs.RulesOfRights.{HasNoRights}
use Rattle.bd_entry.specs.Store.{Descriptor, Store, descriptor_at, is_attached_of, slots_of}
use Rattle.bd_entry.proofs.NextActs.{OwnIsLegal, any-stricter, is_there, next_from_own, none_outstanding, open_descriptor, still_allowed}
use Rattle.bd_entry.proofs.NextOpens.{open_is_legal}

-- ---- lists without an element

-- two lists that make an empty one are empty
both_nil : {X : Type 0} (xs ys : List X) → xs ++ ys ≡ [] → (xs ≡ []) × (ys ≡ [])
both_nil [] ys none = (refl, none)
both_nil (x ∷ xs) ys none = absurd (let no : x ∷ (xs ++ ys) ≡ [] = none in cc)

-- where nothing is made of any element, no element passes a test that implies that something is made of it
flat-none : {X A : Type 0} (f : ℕ × X → List A) (test : X → Bool) (n : ℕ) (xs : List X) →
    ((i : ℕ) (x : X) → f (i, x) ≡ [] → test x ≡ false) → flat_map f (enumerate_from n xs) ≡ [] → list_any test xs ≡ false
flat-none f test n [] fails none = refl
flat-none f test n (x ∷ xs) fails none =
    let parts = both_nil (f (n, x)) (flat_map f (enumerate_from (n + 1) xs)) none in
    or_from (test x) (list_any test xs) (fails n x parts.0) (flat-none f test (n + 1) xs fails parts.1)

-- where nothing that is made of all elements passes a test, nothing that is made of the one at an index does
pub flat-at : {X A : Type 0} (f : ℕ × X → List A) (test : A → Bool) (n : ℕ) (xs : List X) (i : ℕ) (none : X) → f (n + i, none) ≡ [] →
    list_any test (flat_map f (enumerate_from n xs)) ≡ false → list_any test (f (n + i, slice_index_or xs i none)) ≡ false
flat-at f test n [] i none empty fails = ap (list_any test) empty
flat-at f test n (x ∷ xs) zero none empty fails =
    let same : n ≡ n + 0 = omega arith in
    let parts = or_parts (list_any test (f (n, x))) (list_any test (flat_map f (enumerate_from (n + 1) xs)))
    (sym (list_any-append test (f (n, x)) (flat_map f (enumerate_from (n + 1) xs))) ∙ fails) in
    subst (λ (m : ℕ). list_any test (f (m, x)) ≡ false) same parts.0
flat-at f test n (x ∷ xs) (suc i) none empty fails =
    let same : n + 1 + i ≡ n + suc i = omega arith in
    let parts = or_parts (list_any test (f (n, x))) (list_any test (flat_map f (enumerate_from (n + 1) xs)))
    (sym (list_any-append test (f (n, x)) (flat_map f (enumerate_from (n + 1) xs))) ∙ fails) in
    subst (λ (m : ℕ). list_any test (f (m, slice_index_or xs i none)) ≡ false) same
    (flat-at f test (n + 1) xs i none (subst (λ (m : ℕ). f (m, none) ≡ []) (sym same) empty) parts.1)

-- where none of a list passes a test, none is left by it
filter-none : {X : Type 0} (test : X → Bool) (xs : List X) → filter test xs ≡ [] → list_any test xs ≡ false
filter-none test [] none = refl
filter-none test (x ∷ xs) none = by (test x) (filter-none test xs) none
  where
    by : (b : Bool) → (filter test xs ≡ [] → list_any test xs ≡ false) → cond b (x ∷ filter test xs) (filter test xs) ≡ [] →
        (b || list_any test xs) ≡ false
    by true rest none = absurd (let no : x ∷ filter test xs ≡ [] = none in cc)
    by false rest none = rest none

-- ---- no key, no right

-- a slot without a key on a file has no right on it
slot-none : (file process fd : ℕ) (slot : Option Descriptor) → keys_of_slot (λ d. nat_eq d.file file) process fd slot ≡ [] →
    is_attached_of file slot ≡ false
slot-none file process fd None none = refl
slot-none file process fd (Some d) none = by (nat_eq d.file file) d.attached none
  where
    by : (b : Bool) (parts : List ℕ) → let key : ℕ → Key = λ part. record { process = process; fd = fd; part = part } in
        cond b (map key parts) [] ≡ [] → (b && nat_lt 0 (length parts)) ≡ false
    by true [] none = refl
    by true (part ∷ parts) none =
        let key : ℕ → Key = λ part. record { process = process; fd = fd; part = part } in
        absurd (let no : key part ∷ map key parts ≡ [] = none in cc)
    by false parts none = refl

-- a file without a key has no right
pub keys_on-none : (s : Store) (file : ℕ) → keys_on s file ≡ [] → HasNoRights s file
keys_on-none s file none =
    let test : Descriptor → Bool = λ d. nat_eq d.file file in
    let slots : ℕ × List (Option Descriptor) → List Key =
    λ row. flat_map (λ slot. keys_of_slot test row.0 slot.0 slot.1) (enumerate_from 0 row.1) in
    flat-none slots (list_any (is_attached_of file)) 0 s.opens
    (λ process row empty.
    flat-none (λ slot. keys_of_slot test process slot.0 slot.1) (is_attached_of file) 0 row (λ fd slot. slot-none file process fd slot) empty)
    none

-- a descriptor without a key has no right
keys_by-none : (s : Store) (process fd : ℕ) (d : Descriptor) → keys_by s process fd ≡ [] → descriptor_at s process fd ≡ Some d → d.attached ≡ []
keys_by-none s process fd d none is =
    let test : Key → Bool = λ key. nat_eq key.process process && nat_eq key.fd fd in
    let all : Descriptor → Bool = λ d. true in
    let slots : ℕ × List (Option Descriptor) → List Key =
    λ row. flat_map (λ slot. keys_of_slot all row.0 slot.0 slot.1) (enumerate_from 0 row.1) in
    let start : 0 + process ≡ process = omega arith in
    let first : 0 + fd ≡ fd = omega arith in
    let in_row : list_any test (slots (process, slots_of s process)) ≡ false =
    subst (λ (n : ℕ). list_any test (slots (n, slots_of s process)) ≡ false) start
    (flat-at slots test 0 s.opens process [] refl (filter-none test (keys_where all s) none)) in
    let in_slot : list_any test (keys_of_slot all process fd (descriptor_at s process fd)) ≡ false =
    subst (λ (n : ℕ). list_any test (keys_of_slot all process n (descriptor_at s process fd)) ≡ false) first
    (flat-at (λ slot. keys_of_slot all process slot.0 slot.1) test 0 (slots_of s process) fd None refl in_row) in
    by d.attached (subst (λ (slot : Option Descriptor). list_any test (keys_of_slot all process fd slot) ≡ false) is in_slot)
  where
    by : (parts : List ℕ) → let key : ℕ → Key = λ part. record { process = process; fd = fd; part = part } in
        list_any (λ (key : Key). nat_eq key.process process && nat_eq key.fd fd) (map key parts) ≡ false → parts ≡ []
    by [] fails = refl
    by (part ∷ parts) fails =
        absurd
        (both_ways (nat_eq process process && nat_eq fd fd) (or_parts (nat_eq process process && nat_eq fd fd) _ fails).0
        (and_from (nat_eq process process) (nat_eq fd fd) (eq-eqb process process refl) (eq-eqb fd fd refl)))

-- ---- plain opens

-- a plain open ends as it opens
opened-ends : (name : List ℕ) (mode : Mode) (e : Entry) → is_opened e ≡ true → is_end_of (Enter name mode hows.Plain) e ≡ true
opened-ends name mode (entries.Opened at file fd m h) is = refl
opened-ends name mode e is = absurd (false≢true is)

plain_open_is_legal : (name : List ℕ) (mode : Mode) → OwnIsLegal (Enter name mode hows.Plain)
plain_open_is_legal name mode s holders at before outstanding act e ready own adds =
    let call = Enter name mode hows.Plain in
    let none : outstanding ≡ [] = none_outstanding outstanding (λ number some. false≢true (ready.outstanding number some)) in
    let may = own.may_begin none in
    open_is_legal s at before name mode hows.Plain act e
    (record {
      kind = λ file fd. refl;
      once = any-stricter (is_end_of call) is_opened before (opened-ends name mode) ready.unfinished;
      not_refused = still_allowed before (first_refusal s at.process call) may (λ some. ready.allowed some refl);
      no_rights = λ file of. keys_on-none s file (sym (ap (λ (o : Option ℕ). option_map_or (keys_on s) o []) of) ∙ own.no_keys);
    })
    own.own adds

pub plain_opens_are_legal : (name : List ℕ) (mode : Mode) → NextIsLegal (Enter name mode hows.Plain)
plain_opens_are_legal name mode = next_from_own (Enter name mode hows.Plain) (plain_open_is_legal name mode)

-- ---- closes

closed-keeps : (s : Store) (p : Place) (fd : ℕ) (d : Descriptor) → descriptor_at s p.at.process fd ≡ Some d → d.attached ≡ [] → MayBegin s p →
    (rule : EntryRule) → FitsStore s p (entries.Closed p.at fd) rule
closed-keeps s p fd d is bare may IsOpen = is_there (descriptor_at s p.at.process fd) d is
closed-keeps s p fd d is bare may Rights = (d, is, bare)
closed-keeps s p fd d is bare may NotRefused = may
closed-keeps s p fd d is bare may rule = tt

close_is_legal : (fd : ℕ) → OwnIsLegal (Close fd)
close_is_legal fd s holders at before outstanding act e ready own adds =
    let p = (running (Close fd) at before outstanding).place in
    let none : outstanding ≡ [] = none_outstanding outstanding (λ number some. false≢true (ready.outstanding number some)) in
    let may : MayBegin s p = own.may_begin none in
    let d = open_descriptor s at.process fd (λ d. None)
    (still_allowed before (first_refusal s at.process (Close fd)) may (λ some. ready.allowed some refl)) in
    let entry : Entry = entries.Closed at fd in
    subst (IsLegalAt s p) (same_Some entry e (ap (entry_of_act s p) (same_Some acts.Closed act own.own) ∙ adds))
    (record {
      of_call = record { kind = refl; fields = refl };
      of_place = refl;
      once = tt;
      keeps = closed-keeps s p fd d.0 d.1 (keys_by-none s at.process fd d.0 own.no_keys d.1) may;
    })

pub closes_are_legal : (fd : ℕ) → NextIsLegal (Close fd)
closes_are_legal fd = next_from_own (Close fd) (close_is_legal fd)
