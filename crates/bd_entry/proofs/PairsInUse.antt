-- The part that can be attached next, and how many pairs of a file and a part are in use.
use Rattle.std.proofs.Common.{◌≡◌, ℕ, zero, suc, ◌<◌, ◌≤◌, Bool, true, false, ◌&&◌, ◌||◌, cond, not, List, [], ◌∷◌, ◌++◌, map, length, filter, Option, None, Some, refl, sym, ap, ◌∙◌, subst, arith, ⊎_elim}
use Rattle.std.specs.Prelude.{nat_eq, nat_lt, replicate}
use Rattle.std.specs.Cmp.{IsEquivalence}
use Rattle.std.specs.Option.{option_and_then, option_map}
use Rattle.std.specs.List.{AllByRecursion, IsDistinct, flat_map, list_any}
use Rattle.std.proofs.lemmas.Bool.{and_from, and_parts, cases_Bool, cond-true, cond_both, eq-eqb, eqb-true, false_from_ne_true, ltb-true, not-true, not_from_false, or_cases, or_from, or_left, or_parts, or_right, both_ways}
use Rattle.std.proofs.lemmas.List.Folds.{list_any-append}
use Rattle.std.proofs.lemmas.Map.Made.{length-le_from_is_member}
use Rattle.std.proofs.lemmas.Option.{cond_some, option_and_then_some, same_Some}
use Rattle.bd_base.specs.declared.limits.TheConstants.{DESCRIPTORS, FRAGMENTS}
use Rattle.bd_base.specs.declared.script.Call.{Call}
use Rattle.bd_base.specs.declared.script.Process.{Process}
use Rattle.bd_entry.specs.declared.entry.Entry.{Entry}
use Rattle.bd_entry.specs.declared.entry.Entry.TheVariants.{Attached, Cleared, Detached, Opened}
use Rattle.bd_entry.specs.Calls.{at_of}
use Rattle.bd_entry.specs.Effects.{effect_of}
use Rattle.bd_entry.specs.Promises.{NextPartIsLegal, PairsAreFew}
use Rattle.bd_entry.specs.Rules.{Rights, place_in}
use Rattle.bd_entry.specs.RulesOfRights.{HasRights}
use Rattle.bd_entry.specs.Store.{Descriptor, Store, descriptor_at, distinct_pairs, has_fragment, has_plain, lowest_unattached, pairs_in_use, pairs_of_slot, same_pair, start_store, with_part}
use Rattle.bd_base.proofs.Lists.{list_any-same}
use Rattle.bd_entry.proofs.Histories.{history_holds}
use Rattle.bd_entry.proofs.SlotTests.{IgnoresSizes, NonePasses, Spares, none-after}

-- ---- the part that can be attached next

pub next_part_is_legal : NextPartIsLegal
next_part_is_legal s call at fd part d is =
    let May : ℕ → Bool = λ part. not (has_plain s d.file) && has_fragment s d.file part in (
      λ next.
          option_and_then_some (λ part. cond (May part) (Some part) None) (lowest_unattached s d) part next
          (λ lowest found given.
          let may = cond_some (May lowest) lowest part given in
          let parts = and_parts (not (has_plain s d.file)) (has_fragment s d.file lowest) may.0 in
          let fragment : has_fragment s d.file part ≡ true = subst (λ (n : ℕ). has_fragment s d.file n ≡ true) may.1 parts.1 in
          ((d, is, (found ∙ ap Some may.1, fragment)), (d, is, not-true (has_plain s d.file) parts.0))),
      λ legal.
          let of_rights : legal.0.0 ≡ d = same_Some legal.0.0 d (sym legal.0.1 ∙ is) in
          let of_plain : legal.1.0 ≡ d = same_Some legal.1.0 d (sym legal.1.1 ∙ is) in
          let lowest : lowest_unattached s d ≡ Some part = subst (λ (x : Descriptor). lowest_unattached s x ≡ Some part) of_rights legal.0.2.0 in
          let fragment : has_fragment s d.file part ≡ true = subst (λ (x : Descriptor). has_fragment s x.file part ≡ true) of_rights legal.0.2.1 in
          let plain : has_plain s d.file ≡ false = subst (λ (x : Descriptor). has_plain s x.file ≡ false) of_plain legal.1.2 in
          ap (option_and_then (λ part. cond (May part) (Some part) None)) lowest
          ∙ cond-true (May part) (Some part) None
          (and_from (not (has_plain s d.file)) (has_fragment s d.file part) (not_from_false (has_plain s d.file) plain) fragment),
    )

-- ---- pairs

-- pairs are the same where both numbers are
pub same_pair-true : (a b : ℕ × ℕ) → same_pair a b ≡ true → a ≡ b
same_pair-true a b same =
    let parts = and_parts (nat_eq a.0 b.0) (nat_eq a.1 b.1) same in
    let first : a.0 ≡ b.0 = eqb-true a.0 b.0 parts.0 in
    let second : a.1 ≡ b.1 = eqb-true a.1 b.1 parts.1 in
    ap (λ (n : ℕ). (n, a.1)) first ∙ ap (λ (n : ℕ). (b.0, n)) second

pub same_pair-self : (a : ℕ × ℕ) → same_pair a a ≡ true
same_pair-self a = and_from (nat_eq a.0 a.0) (nat_eq a.1 a.1) (eq-eqb a.0 a.0 refl) (eq-eqb a.1 a.1 refl)

same_pair-other : (a b : ℕ × ℕ) → same_pair a b ≡ false → same_pair b a ≡ false
same_pair-other a b other =
    false_from_ne_true (same_pair b a)
    (λ same. both_ways (same_pair a b) other (subst (λ (x : ℕ × ℕ). same_pair x b ≡ true) (same_pair-true b a same) (same_pair-self b)))

same_pair-symmetric : (a b : ℕ × ℕ) → same_pair a b ≡ same_pair b a
same_pair-symmetric a b =
    ⊎_elim
    (λ same. same ∙ sym (subst (λ (x : ℕ × ℕ). same_pair b x ≡ true) (sym (same_pair-true a b same)) (same_pair-self b)))
    (λ other. other ∙ sym (same_pair-other a b other))
    (cases_Bool (same_pair a b))

pub same_pair-equivalence : IsEquivalence same_pair
same_pair-equivalence = record {
  refl = same_pair-self;
  symm = same_pair-symmetric;
  congr = λ a b c same. ap (λ (x : ℕ × ℕ). same_pair x c) (same_pair-true a b same);
}

-- ---- each pair once

-- what is left by a test was there
list_any-filter : {X : Type 0} (test keep : X → Bool) (xs : List X) → list_any test (filter keep xs) ≡ true → list_any test xs ≡ true
list_any-filter test keep [] some = some
list_any-filter test keep (x ∷ xs) some =
    cond_both (keep x) (x ∷ filter keep xs) (filter keep xs) (λ ys. list_any test ys ≡ true → list_any test (x ∷ xs) ≡ true)
    (λ kept found.
    ⊎_elim
    (λ here. or_left (test x) (list_any test xs) here)
    (λ later. or_right (test x) (list_any test xs) (list_any-filter test keep xs later))
    (or_cases (test x) (list_any test (filter keep xs)) found))
    (λ gone found. or_right (test x) (list_any test xs) (list_any-filter test keep xs found))
    some

-- what passes another test that keeps it is left
list_any-kept : {X : Type 0} (test keep : X → Bool) (xs : List X) → ((x : X) → test x ≡ true → keep x ≡ true) → list_any test xs ≡ true →
    list_any test (filter keep xs) ≡ true
list_any-kept test keep [] keeps some = some
list_any-kept test keep (x ∷ xs) keeps some =
    cond_both (keep x) (x ∷ filter keep xs) (filter keep xs) (λ ys. list_any test ys ≡ true)
    (λ kept.
    ⊎_elim
    (λ here. or_left (test x) (list_any test (filter keep xs)) here)
    (λ later. or_right (test x) (list_any test (filter keep xs)) (list_any-kept test keep xs keeps later))
    (or_cases (test x) (list_any test xs) some))
    (λ gone.
    ⊎_elim
    (λ here. absurd (both_ways (keep x) gone (keeps x here)))
    (λ later. list_any-kept test keep xs keeps later)
    (or_cases (test x) (list_any test xs) some))

pub distinct-within : (q : ℕ × ℕ) (pairs : List (ℕ × ℕ)) → list_any (same_pair q) (distinct_pairs pairs) ≡ true
    → list_any (same_pair q) pairs ≡ true
distinct-within q [] some = some
distinct-within q (pair ∷ pairs) some =
    let others : ℕ × ℕ → Bool = λ other. not (same_pair pair other) in
    ⊎_elim
    (λ here. or_left (same_pair q pair) (list_any (same_pair q) pairs) here)
    (λ later.
    or_right (same_pair q pair) (list_any (same_pair q) pairs) (distinct-within q pairs (list_any-filter (same_pair q) others (distinct_pairs pairs) later)))
    (or_cases (same_pair q pair) (list_any (same_pair q) (filter others (distinct_pairs pairs))) some)

pub distinct-has : (q : ℕ × ℕ) (pairs : List (ℕ × ℕ)) → list_any (same_pair q) pairs ≡ true → list_any (same_pair q) (distinct_pairs pairs) ≡ true
distinct-has q [] some = some
distinct-has q (pair ∷ pairs) some =
    let others : ℕ × ℕ → Bool = λ other. not (same_pair pair other) in
    let rest = filter others (distinct_pairs pairs) in
    ⊎_elim
    (λ same. or_left (same_pair q pair) (list_any (same_pair q) rest) same)
    (λ other.
    ⊎_elim
    (λ here. absurd (both_ways (same_pair q pair) other here))
    (λ later.
    or_right (same_pair q pair) (list_any (same_pair q) rest)
    (list_any-kept (same_pair q) others (distinct_pairs pairs)
    (λ x is.
    not_from_false (same_pair pair x) (subst (λ (y : ℕ × ℕ). same_pair pair y ≡ false) (same_pair-true q x is) (same_pair-other q pair other)))
    (distinct-has q pairs later)))
    (or_cases (same_pair q pair) (list_any (same_pair q) pairs) some))
    (cases_Bool (same_pair q pair))

-- a filter leaves what holds of all elements
all-filter : {X : Type 0} (P : X → Type 0) (keep : X → Bool) (xs : List X) → AllByRecursion P xs → AllByRecursion P (filter keep xs)
all-filter P keep [] all = all
all-filter P keep (x ∷ xs) all =
    cond_both (keep x) (x ∷ filter keep xs) (filter keep xs) (AllByRecursion P)
    (λ kept. (all.0, all-filter P keep xs all.1))
    (λ gone. all-filter P keep xs all.1)

-- and all of it passes the test
all-passes : {X : Type 0} (keep : X → Bool) (P : X → Type 0) (xs : List X) → ((x : X) → keep x ≡ true → P x) → AllByRecursion P (filter keep xs)
all-passes keep P [] means = tt
all-passes keep P (x ∷ xs) means =
    cond_both (keep x) (x ∷ filter keep xs) (filter keep xs) (AllByRecursion P)
    (λ kept. (means x kept, all-passes keep P xs means))
    (λ gone. all-passes keep P xs means)

distinct-filter : {X : Type 0} (eq : X → X → Bool) (keep : X → Bool) (xs : List X) → IsDistinct eq xs → IsDistinct eq (filter keep xs)
unfolding IsDistinct
distinct-filter eq keep [] apart = apart
distinct-filter eq keep (x ∷ xs) apart =
    cond_both (keep x) (x ∷ filter keep xs) (filter keep xs) (IsDistinct eq)
    (λ kept. (all-filter (λ y. eq x y ≡ false) keep xs apart.0, distinct-filter eq keep xs apart.1))
    (λ gone. distinct-filter eq keep xs apart.1)

pub distinct-pairs : (pairs : List (ℕ × ℕ)) → IsDistinct same_pair (distinct_pairs pairs)
unfolding IsDistinct
distinct-pairs [] = tt
distinct-pairs (pair ∷ pairs) =
    let others : ℕ × ℕ → Bool = λ other. not (same_pair pair other) in (
      all-passes others (λ other. same_pair pair other ≡ false) (distinct_pairs pairs) (λ other is. not-true (same_pair pair other) is),
      distinct-filter same_pair others (distinct_pairs pairs) (distinct-pairs pairs),
    )

-- ---- pairs of a store

-- whether a slot has a right on a pair
abbrev pub has_pair : ℕ × ℕ → Option Descriptor → Bool
has_pair q slot = list_any (same_pair q) (pairs_of_slot slot)

list_any-flat_map : {X Y : Type 0} (test : Y → Bool) (f : X → List Y) (xs : List X) →
    list_any test (flat_map f xs) ≡ list_any (λ x. list_any test (f x)) xs
list_any-flat_map test f [] = refl
list_any-flat_map test f (x ∷ xs) =
    list_any-append test (f x) (flat_map f xs) ∙ ap (λ (b : Bool). list_any test (f x) || b) (list_any-flat_map test f xs)

-- the pairs of all slots are those of some slot
pub pairs-of_slots : (q : ℕ × ℕ) (rows : List (List (Option Descriptor))) →
    list_any (same_pair q) (flat_map (flat_map pairs_of_slot) rows) ≡ list_any (list_any (has_pair q)) rows
pairs-of_slots q rows =
    list_any-flat_map (same_pair q) (flat_map pairs_of_slot) rows
    ∙ list_any-same (λ row. list_any (same_pair q) (flat_map pairs_of_slot row)) (list_any (has_pair q))
    (λ row. list_any-flat_map (same_pair q) pairs_of_slot row) rows

in_use-has : (q : ℕ × ℕ) (s : Store) → list_any (list_any (has_pair q)) s.opens ≡ true → list_any (same_pair q) (pairs_in_use s) ≡ true
in_use-has q s some = distinct-has q (flat_map (flat_map pairs_of_slot) s.opens) (pairs-of_slots q s.opens ∙ some)

in_use-within : (q : ℕ × ℕ) (s : Store) → list_any (same_pair q) (pairs_in_use s) ≡ true → list_any (list_any (has_pair q)) s.opens ≡ true
in_use-within q s some = sym (pairs-of_slots q s.opens) ∙ distinct-within q (flat_map (flat_map pairs_of_slot) s.opens) some

has_pair-ignores : (q : ℕ × ℕ) → IgnoresSizes (has_pair q)
has_pair-ignores q = record { none = refl; known = λ d size. refl; told = λ d size. refl }

-- ---- an entry adds one pair at most

-- the pair on which an entry attaches a right
abbrev added_pair : Store → Entry → List (ℕ × ℕ)
added_pair s (Attached at fd part) = pairs_of_slot (option_map (λ (d : Descriptor). record d { attached = part ∷ [] }) (descriptor_at s at.process fd))
added_pair s e = []

-- a part that joins a set adds its own pair alone
with_part-pairs : (q : ℕ × ℕ) (file part : ℕ) (parts : List ℕ) → list_any (same_pair q) (map (λ p. (file, p)) parts) ≡ false →
    same_pair q (file, part) ≡ false → list_any (same_pair q) (map (λ p. (file, p)) (with_part part parts)) ≡ false
with_part-pairs q file part [] none other = or_from (same_pair q (file, part)) false other refl
with_part-pairs q file part (x ∷ xs) none other =
    let pairs : List ℕ → List (ℕ × ℕ) = map (λ p. (file, p)) in
    let parts = or_parts (same_pair q (file, x)) (list_any (same_pair q) (pairs xs)) none in
    cond_both (nat_lt part x) (part ∷ x ∷ xs) (cond (nat_eq part x) (x ∷ xs) (x ∷ with_part part xs))
    (λ ps. list_any (same_pair q) (pairs ps) ≡ false)
    (λ first. or_from (same_pair q (file, part)) (list_any (same_pair q) (pairs (x ∷ xs))) other none)
    (λ later.
    cond_both (nat_eq part x) (x ∷ xs) (x ∷ with_part part xs) (λ ps. list_any (same_pair q) (pairs ps) ≡ false)
    (λ same. none)
    (λ differ.
    or_from (same_pair q (file, x)) (list_any (same_pair q) (pairs (with_part part xs))) parts.0 (with_part-pairs q file part xs parts.1 other)))

-- a part that leaves a set adds none
without_part-pairs : (q : ℕ × ℕ) (file : ℕ) (keep : ℕ → Bool) (parts : List ℕ) → list_any (same_pair q) (map (λ p. (file, p)) parts) ≡ false
    → list_any (same_pair q) (map (λ p. (file, p)) (filter keep parts)) ≡ false
without_part-pairs q file keep [] none = none
without_part-pairs q file keep (x ∷ xs) none =
    let pairs : List ℕ → List (ℕ × ℕ) = map (λ p. (file, p)) in
    let parts = or_parts (same_pair q (file, x)) (list_any (same_pair q) (pairs xs)) none in
    cond_both (keep x) (x ∷ filter keep xs) (filter keep xs) (λ ps. list_any (same_pair q) (pairs ps) ≡ false)
    (λ kept. or_from (same_pair q (file, x)) (list_any (same_pair q) (pairs (filter keep xs))) parts.0 (without_part-pairs q file keep xs parts.1))
    (λ gone. without_part-pairs q file keep xs parts.1)

spares_pairs : (q : ℕ × ℕ) (s : Store) (e : Entry) → list_any (same_pair q) (added_pair s e) ≡ false → Spares (has_pair q) s e
spares_pairs q s (Opened at file fd mode how) other = refl
spares_pairs q s (Attached at fd part) other =
    λ d is none.
    let added : list_any (same_pair q) ((d.file, part) ∷ []) ≡ false =
    subst (λ (slot : Option Descriptor).
    list_any (same_pair q) (pairs_of_slot (option_map (λ (d : Descriptor). record d { attached = part ∷ [] }) slot)) ≡ false)
    is other in
    with_part-pairs q d.file part d.attached none (or_parts (same_pair q (d.file, part)) false added).0
spares_pairs q s (Cleared at owner fd part) other = λ d is none. none
spares_pairs q s (Detached at owner fd part) other = λ d is none. without_part-pairs q d.file (λ p. not (nat_eq part p)) d.attached none
spares_pairs q s e other = tt

-- a pair in use after an entry was in use, or is the one on which the entry attaches
in_use-cases : (s : Store) (call : Call) (e : Entry) (q : ℕ × ℕ) →
    list_any (same_pair q) (pairs_in_use (effect_of s (place_in s call (at_of e)) e)) ≡ true →
    list_any (same_pair q) (added_pair s e ++ pairs_in_use s) ≡ true
in_use-cases s call e q used =
    let t = effect_of s (place_in s call (at_of e)) e in
    list_any-append (same_pair q) (added_pair s e) (pairs_in_use s)
    ∙ ⊎_elim
    (λ added. or_left (list_any (same_pair q) (added_pair s e)) (list_any (same_pair q) (pairs_in_use s)) added)
    (λ other.
    or_right (list_any (same_pair q) (added_pair s e)) (list_any (same_pair q) (pairs_in_use s))
    (⊎_elim
    (λ some. in_use-has q s some)
    (λ none.
    let none_after : NonePasses (has_pair q) t =
    none-after (has_pair q) s (place_in s call (at_of e)) e (has_pair-ignores q) (spares_pairs q s e other) none in
    absurd (both_ways (list_any (list_any (has_pair q)) t.opens) none_after (in_use-within q t used)))
    (cases_Bool (list_any (list_any (has_pair q)) s.opens))))
    (cases_Bool (list_any (same_pair q) (added_pair s e)))

-- so no more pairs are in use than before, but for that one
in_use-length : (s : Store) (call : Call) (e : Entry) (most : List (ℕ × ℕ)) →
    ((q : ℕ × ℕ) → list_any (same_pair q) (added_pair s e ++ pairs_in_use s) ≡ true → list_any (same_pair q) most ≡ true) →
    length (pairs_in_use (effect_of s (place_in s call (at_of e)) e)) ≤ length most
in_use-length s call e most within =
    let t = effect_of s (place_in s call (at_of e)) e in
    length-le_from_is_member same_pair-equivalence (pairs_in_use t) most (distinct-pairs (flat_map (flat_map pairs_of_slot) t.opens))
    (λ q used. within q (in_use-cases s call e q used))

-- a pair that has a fragment leaves the pairs few
few-attached : (s : Store) (call : Call) (e : Entry) (pair : ℕ × ℕ) → added_pair s e ≡ pair ∷ [] → has_fragment s pair.0 pair.1 ≡ true →
    length (pairs_in_use s) ≤ FRAGMENTS → length (pairs_in_use (effect_of s (place_in s call (at_of e)) e)) ≤ FRAGMENTS
few-attached s call e pair added fragment few =
    let used = pairs_in_use s in
    let t = effect_of s (place_in s call (at_of e)) e in
    ⊎_elim
    (λ in_use.
    let no_more : length (pairs_in_use t) ≤ length used =
    in_use-length s call e used
    (λ q some.
    ⊎_elim
    (λ here. subst (λ (x : ℕ × ℕ). list_any (same_pair x) used ≡ true) (sym (same_pair-true q pair here)) in_use)
    (λ later. later)
    (or_cases (same_pair q pair) (list_any (same_pair q) used)
    (subst (λ (xs : List (ℕ × ℕ)). list_any (same_pair q) (xs ++ used) ≡ true) added some))) in
    omega arith)
    (λ free.
    let left : length used < FRAGMENTS = ltb-true (length used) FRAGMENTS free in
    let one_more : length (pairs_in_use t) ≤ length (pair ∷ used) =
    in_use-length s call e (pair ∷ used) (λ q some. subst (λ (xs : List (ℕ × ℕ)). list_any (same_pair q) (xs ++ used) ≡ true) added some) in
    let count : length (pair ∷ used) ≡ suc (length used) = refl in
    omega arith)
    (or_cases (list_any (same_pair (pair.0, pair.1)) used) (nat_lt (length used) FRAGMENTS) fragment)

few-other : (s : Store) (call : Call) (e : Entry) → added_pair s e ≡ [] → length (pairs_in_use s) ≤ FRAGMENTS →
    length (pairs_in_use (effect_of s (place_in s call (at_of e)) e)) ≤ FRAGMENTS
few-other s call e added few =
    let no_more : length (pairs_in_use (effect_of s (place_in s call (at_of e)) e)) ≤ length (pairs_in_use s) =
    in_use-length s call e (pairs_in_use s)
    (λ q some. subst (λ (xs : List (ℕ × ℕ)). list_any (same_pair q) (xs ++ pairs_in_use s) ≡ true) added some) in
    omega arith

few-after : (s : Store) (call : Call) (e : Entry) → HasRights s (place_in s call (at_of e)) e → length (pairs_in_use s) ≤ FRAGMENTS →
    length (pairs_in_use (effect_of s (place_in s call (at_of e)) e)) ≤ FRAGMENTS
few-after s call (Attached at fd part) rights few =
    few-attached s call (Attached at fd part) (rights.0.file, part)
    (ap (λ (slot : Option Descriptor). pairs_of_slot (option_map (λ (d : Descriptor). record d { attached = part ∷ [] }) slot)) rights.1) rights.2.1 few
few-after s call e rights few = few-other s call e refl few

-- ---- histories

-- no pair is in use at the start
pub none_in_row : (n : ℕ) → flat_map pairs_of_slot (replicate n None) ≡ []
none_in_row zero = refl
none_in_row (suc n) = none_in_row n

none_at_start : (processes : List Process) →
    let row : Process → List (Option Descriptor) = λ p. replicate DESCRIPTORS None in
    flat_map (flat_map pairs_of_slot) (map row processes) ≡ []
none_at_start [] = refl
none_at_start (p ∷ processes) =
    let row : Process → List (Option Descriptor) = λ p. replicate DESCRIPTORS None in
    ap (λ (pairs : List (ℕ × ℕ)). pairs ++ flat_map (flat_map pairs_of_slot) (map row processes)) (none_in_row DESCRIPTORS) ∙ none_at_start processes

-- there are no more pairs in use than fragments
record PairsFit (s : Store) : Type 0 where
  pub few : length (pairs_in_use s) ≤ FRAGMENTS

pub pairs_are_few : PairsAreFew
pairs_are_few v script journal s history =
    let nothing : pairs_in_use (start_store v script) ≡ [] = ap distinct_pairs (none_at_start script.processes) in
    let none : length (pairs_in_use (start_store v script)) ≡ 0 = ap (λ (pairs : List (ℕ × ℕ)). length pairs) nothing in
    (history_holds v script (λ before s. PairsFit s) (record { few = omega arith })
    (λ before s call e next fit. record { few = few-after s call e (next.keeps Rights) fit.few }) journal s history).few
