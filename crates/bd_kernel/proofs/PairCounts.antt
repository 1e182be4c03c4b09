-- How the number of pairs with a right changes, as one right joins or leaves.
use Rattle.std.proofs.Common.{◌≡◌, ℕ, ◌+◌, ◌<◌, ◌≤◌, Bool, true, false, ◌||◌, ◌&&◌, cond, not, Option, None, List, [], ◌∷◌, length, map, zero, suc, refl, sym, ap, ◌∙◌, subst, arith, set, get_or, ⊎_elim}
use Rattle.std.specs.Prelude.{nat_eq, nat_lt}
use Rattle.std.specs.List.{AllByRecursion, IsDistinct, flat_map, list_any}
use Rattle.std.proofs.lemmas.Bool.{and_from, both_ways, cases_Bool, cond_both, eq-eqb, eqb-true, false_from_ne_true, not-false, or_cases, or_left, or_parts, or_right}
use Rattle.std.proofs.lemmas.Bool.Decides.{nat_tests}
use Rattle.std.proofs.lemmas.Map.Keys.{IsDistinct-cons}
use Rattle.std.proofs.lemmas.Map.Made.{length-le_from_is_member}
use Rattle.bd_entry.specs.Store.{Descriptor, distinct_pairs, has_part, pairs_of_slot, same_pair, with_part, without_part}
use Rattle.bd_entry.proofs.PairsInUse.{distinct-has, distinct-pairs, distinct-within, has_pair, pairs-of_slots, same_pair-equivalence, same_pair-self, same_pair-true}
use Rattle.bd_kernel.specs.Changes.{Rows, pairs_of_rows, rows_with_slot, slot_at}

-- whether some right stands on the pair
abbrev pub uses : Rows → ℕ × ℕ → Bool
uses rows q = list_any (list_any (has_pair q)) rows

or-assoc : (a b c : Bool) → ((a || b) || c) ≡ (a || (b || c))
or-assoc true b c = refl
or-assoc false b c = refl

or-swap : (a b c : Bool) → ((a || b) || c) ≡ ((a || c) || b)
or-swap true b c = refl
or-swap false true true = refl
or-swap false true false = refl
or-swap false false true = refl
or-swap false false false = refl

and-false : (b : Bool) → (b && false) ≡ false
and-false true = refl
and-false false = refl

or-false : (b : Bool) → (b || false) ≡ b
or-false true = refl
or-false false = refl

-- an element is changed so that a test passes there where it did before, or this holds
any-set_or : {X : Type 0} (test : X → Bool) (xs : List X) (i : ℕ) (y none : X) (more : Bool) → i < length xs →
    test y ≡ (test (get_or xs i none) || more) → list_any test (set xs i y) ≡ (list_any test xs || more)
any-set_or test [] i y none more within here = absurd (omega arith)
any-set_or test (x ∷ xs) zero y none more within here =
    ap (λ (b : Bool). b || list_any test xs) here ∙ or-swap (test x) more (list_any test xs)
any-set_or test (x ∷ xs) (suc i) y none more within here =
    ap (λ (b : Bool). test x || b) (any-set_or test xs i y none more (omega arith) here) ∙ sym (or-assoc (test x) (list_any test xs) more)

-- an element is changed so that the test passed there where it does now, or this holds
any-set_less : {X : Type 0} (test : X → Bool) (xs : List X) (i : ℕ) (y none : X) (more : Bool) → i < length xs →
    test (get_or xs i none) ≡ (test y || more) → list_any test xs ≡ (list_any test (set xs i y) || more)
any-set_less test [] i y none more within here = absurd (omega arith)
any-set_less test (x ∷ xs) zero y none more within here =
    ap (λ (b : Bool). b || list_any test xs) here ∙ or-swap (test y) more (list_any test xs)
any-set_less test (x ∷ xs) (suc i) y none more within here =
    ap (λ (b : Bool). test x || b) (any-set_less test xs i y none more (omega arith) here) ∙ sym (or-assoc (test x) (list_any test (set xs i y)) more)

-- the slot of a descriptor is changed so that it had a right on the pair where it has one, or this holds
pub uses-before_slot : (rows : Rows) (process fd : ℕ) (slot : Option Descriptor) (q : ℕ × ℕ) (more : Bool) → process < length rows →
    fd < length (get_or rows process []) → has_pair q (slot_at rows process fd) ≡ (has_pair q slot || more) →
    uses rows q ≡ (uses (rows_with_slot rows process fd slot) q || more)
uses-before_slot rows process fd slot q more row_there slot_there here =
    any-set_less (list_any (has_pair q)) rows process (set (get_or rows process []) fd slot) [] more row_there
    (any-set_less (has_pair q) (get_or rows process []) fd slot None more slot_there here)

-- the slot of a descriptor is changed so that it has a right on the pair where it had one, or this holds
pub uses-slot : (rows : Rows) (process fd : ℕ) (slot : Option Descriptor) (q : ℕ × ℕ) (more : Bool) → process < length rows →
    fd < length (get_or rows process []) → has_pair q slot ≡ (has_pair q (slot_at rows process fd) || more) →
    uses (rows_with_slot rows process fd slot) q ≡ (uses rows q || more)
uses-slot rows process fd slot q more row_there slot_there here =
    any-set_or (list_any (has_pair q)) rows process (set (get_or rows process []) fd slot) [] more row_there
    (any-set_or (has_pair q) (get_or rows process []) fd slot None more slot_there here)

-- a part joins those of a file
pub pairs-with_part : (q : ℕ × ℕ) (file part : ℕ) (parts : List ℕ) →
    list_any (same_pair q) (map (λ p. (file, p)) (with_part part parts))
    ≡ (list_any (same_pair q) (map (λ p. (file, p)) parts) || same_pair q (file, part))
pairs-with_part q file part [] = or-false (same_pair q (file, part))
pairs-with_part q file part (x ∷ xs) =
    let pairs : List ℕ → List (ℕ × ℕ) = map (λ p. (file, p)) in
    let joined : List ℕ → Type 0 = λ ps. list_any (same_pair q) (pairs ps) ≡ (list_any (same_pair q) (pairs (x ∷ xs)) || same_pair q (file, part)) in
    cond_both (nat_lt part x) (part ∷ x ∷ xs) (cond (nat_eq part x) (x ∷ xs) (x ∷ with_part part xs)) joined
    (λ first. or-comm (same_pair q (file, part)) (list_any (same_pair q) (pairs (x ∷ xs))))
    (λ later.
    cond_both (nat_eq part x) (x ∷ xs) (x ∷ with_part part xs) joined
    (λ same.
    let is : x ≡ part = sym (eqb-true part x same) in
    absorbed (same_pair q (file, x)) (list_any (same_pair q) (pairs xs)) (same_pair q (file, part)) (ap (λ (n : ℕ). same_pair q (file, n)) is))
    (λ differ.
    ap (λ (b : Bool). same_pair q (file, x) || b) (pairs-with_part q file part xs)
    ∙ sym (or-assoc (same_pair q (file, x)) (list_any (same_pair q) (pairs xs)) (same_pair q (file, part)))))
  where
    or-comm : (a b : Bool) → (a || b) ≡ (b || a)
    or-comm true true = refl
    or-comm true false = refl
    or-comm false true = refl
    or-comm false false = refl

    absorbed : (a b c : Bool) → a ≡ c → (a || b) ≡ ((a || b) || c)
    absorbed true b c same = refl
    absorbed false true c same = refl
    absorbed false false c same = same

-- a file's pair is among those of its parts where the part is among these
pub pairs-of_file : (file part of : ℕ) (parts : List ℕ) →
    list_any (same_pair (file, part)) (map (λ p. (of, p)) parts) ≡ (nat_eq of file && has_part part parts)
pairs-of_file file part of [] = sym (and-false (nat_eq of file))
pairs-of_file file part of (x ∷ xs) =
    let more : list_any (same_pair (file, part)) (map (λ p. (of, p)) xs) ≡ (nat_eq of file && has_part part xs) = pairs-of_file file part of xs in
    ap (λ (b : Bool). (nat_eq file of && nat_eq part x) || b) more
    ∙ ap (λ (b : Bool). (b && nat_eq part x) || (nat_eq of file && has_part part xs)) (swapped file of)
    ∙ and-or (nat_eq of file) (nat_eq part x) (has_part part xs)
  where
    swapped : (a b : ℕ) → nat_eq a b ≡ nat_eq b a
    swapped a b = grind (arith, nat_tests)

    and-or : (a b c : Bool) → ((a && b) || (a && c)) ≡ (a && (b || c))
    and-or true b c = refl
    and-or false b c = refl

-- a part leaves those of a file
pub pairs-without_part : (q : ℕ × ℕ) (file part : ℕ) (parts : List ℕ) → has_part part parts ≡ true →
    list_any (same_pair q) (map (λ p. (file, p)) parts)
    ≡ (list_any (same_pair q) (map (λ p. (file, p)) (without_part part parts)) || same_pair q (file, part))
pairs-without_part q file part parts has =
    let its : List ℕ → Bool = λ ps. list_any (same_pair q) (map (λ p. (file, p)) ps) in
    with-implied (its parts) (same_pair q (file, part))
    (λ same.
    subst (λ (pair : ℕ × ℕ). list_any (same_pair pair) (map (λ p. (file, p)) parts) ≡ true) (sym (same_pair-true q (file, part) same))
    (pairs-of_file file part file parts ∙ and_from (nat_eq file file) (has_part part parts) (eq-eqb file file refl) has))
    ∙ besides parts
  where
    with-implied : (a b : Bool) → (b ≡ true → a ≡ true) → a ≡ (a || b)
    with-implied true b implies = refl
    with-implied false true implies = implies refl
    with-implied false false implies = refl

    joined : (a b c s : Bool) → a ≡ s → (b || s) ≡ (c || s) → ((a || b) || s) ≡ (c || s)
    joined true b true s same rest = refl
    joined true b false s same rest = same
    joined false b c s same rest = rest

    besides : (ps : List ℕ) →
        (list_any (same_pair q) (map (λ p. (file, p)) ps) || same_pair q (file, part))
        ≡ (list_any (same_pair q) (map (λ p. (file, p)) (without_part part ps)) || same_pair q (file, part))
    besides [] = refl
    besides (x ∷ ps) =
        let its : List ℕ → Bool = λ ps. list_any (same_pair q) (map (λ p. (file, p)) ps) in
        let s : Bool = same_pair q (file, part) in
        cond_both (not (nat_eq part x)) (x ∷ without_part part ps) (without_part part ps) (λ rest. (its (x ∷ ps) || s) ≡ (its rest || s))
        (λ other.
        or-assoc (same_pair q (file, x)) (its ps) s ∙ ap (λ (b : Bool). same_pair q (file, x) || b) (besides ps)
        ∙ sym (or-assoc (same_pair q (file, x)) (its (without_part part ps)) s))
        (λ same.
        let is : part ≡ x = eqb-true part x (not-false (nat_eq part x) same) in
        joined (same_pair q (file, x)) (its ps) (its (without_part part ps)) s (ap (λ (n : ℕ). same_pair q (file, n)) (sym is)) (besides ps))

-- no element passes
none-by : (pair : ℕ × ℕ) (pairs : List (ℕ × ℕ)) → list_any (same_pair pair) pairs ≡ false → AllByRecursion (λ other. same_pair pair other ≡ false) pairs
none-by pair [] none = tt
none-by pair (x ∷ pairs) none =
    let parts = or_parts (same_pair pair x) (list_any (same_pair pair) pairs) none in
    (parts.0, none-by pair pairs parts.1)

-- a pair that is not among these is one more
distinct-cons : (pair : ℕ × ℕ) (pairs : List (ℕ × ℕ)) → list_any (same_pair pair) pairs ≡ false → IsDistinct same_pair pairs →
    IsDistinct same_pair (pair ∷ pairs)
distinct-cons pair pairs none apart = IsDistinct-cons same_pair pair pairs (none-by pair pairs none) apart

-- a pair joins those in use: there is one more where it was not
pub record IsJoined (less more : Rows) (pair : ℕ × ℕ) : Type 0 where
  pub joined : (q : ℕ × ℕ) → uses more q ≡ (uses less q || same_pair q pair)

module _ (less more : Rows) (pair : ℕ × ℕ) (is : IsJoined less more pair) where
  -- what is in use stays in use
  stays : (q : ℕ × ℕ) → list_any (same_pair q) (pairs_of_rows less) ≡ true → list_any (same_pair q) (pairs_of_rows more) ≡ true
  stays q used =
      let before : uses less q ≡ true = sym (pairs-of_slots q less) ∙ distinct-within q (flat_map (flat_map pairs_of_slot) less) used in
      distinct-has q (flat_map (flat_map pairs_of_slot) more)
      (pairs-of_slots q more ∙ is.joined q ∙ or_left (uses less q) (same_pair q pair) before)

  -- and what is in use after was before, or is the pair
  was : (q : ℕ × ℕ) → list_any (same_pair q) (pairs_of_rows more) ≡ true → (uses less q || same_pair q pair) ≡ true
  was q used = sym (is.joined q) ∙ sym (pairs-of_slots q more) ∙ distinct-within q (flat_map (flat_map pairs_of_slot) more) used

  is_used : (q : ℕ × ℕ) → uses less q ≡ true → list_any (same_pair q) (pairs_of_rows less) ≡ true
  is_used q used = distinct-has q (flat_map (flat_map pairs_of_slot) less) (pairs-of_slots q less ∙ used)

  not_fewer : length (pairs_of_rows less) ≤ length (pairs_of_rows more)
  not_fewer =
      length-le_from_is_member same_pair-equivalence (pairs_of_rows less) (pairs_of_rows more)
      (distinct-pairs (flat_map (flat_map pairs_of_slot) less)) stays

  -- as many where the pair was in use already
  pub same_count : list_any (same_pair pair) (pairs_of_rows less) ≡ true → length (pairs_of_rows more) ≡ length (pairs_of_rows less)
  same_count used =
      let no_more : length (pairs_of_rows more) ≤ length (pairs_of_rows less) =
      length-le_from_is_member same_pair-equivalence (pairs_of_rows more) (pairs_of_rows less)
      (distinct-pairs (flat_map (flat_map pairs_of_slot) more))
      (λ q some.
      ⊎_elim
      (λ before. is_used q before)
      (λ here. subst (λ (x : ℕ × ℕ). list_any (same_pair x) (pairs_of_rows less) ≡ true) (sym (same_pair-true q pair here)) used)
      (or_cases (uses less q) (same_pair q pair) (was q some))) in
      let fewer : length (pairs_of_rows less) ≤ length (pairs_of_rows more) = not_fewer in
      omega arith

  -- one more where it was not
  pub one_more : list_any (same_pair pair) (pairs_of_rows less) ≡ false → length (pairs_of_rows more) ≡ length (pairs_of_rows less) + 1
  one_more unused =
      let one_at_most : length (pairs_of_rows more) ≤ length (pair ∷ pairs_of_rows less) =
      length-le_from_is_member same_pair-equivalence (pairs_of_rows more) (pair ∷ pairs_of_rows less)
      (distinct-pairs (flat_map (flat_map pairs_of_slot) more))
      (λ q some.
      ⊎_elim
      (λ before. or_right (same_pair q pair) (list_any (same_pair q) (pairs_of_rows less)) (is_used q before))
      (λ here. or_left (same_pair q pair) (list_any (same_pair q) (pairs_of_rows less)) here)
      (or_cases (uses less q) (same_pair q pair) (was q some))) in
      let one_at_least : length (pair ∷ pairs_of_rows less) ≤ length (pairs_of_rows more) =
      length-le_from_is_member same_pair-equivalence (pair ∷ pairs_of_rows less) (pairs_of_rows more)
      (distinct-cons pair (pairs_of_rows less) unused (distinct-pairs (flat_map (flat_map pairs_of_slot) less)))
      (λ q some.
      ⊎_elim
      (λ here.
      subst (λ (x : ℕ × ℕ). list_any (same_pair x) (pairs_of_rows more) ≡ true) (sym (same_pair-true q pair here)) joined_pair)
      (λ before. stays q before)
      (or_cases (same_pair q pair) (list_any (same_pair q) (pairs_of_rows less)) some)) in
      let count : length (pair ∷ pairs_of_rows less) ≡ suc (length (pairs_of_rows less)) = refl in
      omega arith
    where
      joined_pair : list_any (same_pair pair) (pairs_of_rows more) ≡ true
      joined_pair =
          distinct-has pair (flat_map (flat_map pairs_of_slot) more)
          (pairs-of_slots pair more ∙ is.joined pair ∙ or_right (uses less pair) (same_pair pair pair) (same_pair-self pair))

-- a pair is among those in use where some right stands on it
pub in_use-uses : (q : ℕ × ℕ) (rows : Rows) → list_any (same_pair q) (pairs_of_rows rows) ≡ uses rows q
in_use-uses q rows =
    let pairs : List (ℕ × ℕ) = flat_map (flat_map pairs_of_slot) rows in
    ⊎_elim
    (λ used. distinct-has q pairs used ∙ sym (sym (pairs-of_slots q rows) ∙ used))
    (λ unused.
    false_from_ne_true (list_any (same_pair q) (distinct_pairs pairs)) (λ some. both_ways (list_any (same_pair q) pairs) unused (distinct-within q pairs some))
    ∙ sym (sym (pairs-of_slots q rows) ∙ unused))
    (cases_Bool (list_any (same_pair q) pairs))
