-- The pairs with a right are counted still after a change that leaves those of each descriptor, and at the start.
use Rattle.std.proofs.Common.{◌≡◌, ℕ, ◌<◌, ◌≤◌, Option, None, Some, List, [], ◌∷◌, ◌++◌, length, zero, suc, refl, sym, ap, ◌∙◌}
use Rattle.std.proofs.Common.{subst, arith, set, get_or, length-set, replicate}
use Rattle.std.specs.List.{flat_map, list_any}
use Rattle.std.specs.Option.{option_map}
use Rattle.std.proofs.lemmas.Bool.{false≢true}
use Rattle.std.proofs.lemmas.List.{get_or_default, length-replicate}
use Rattle.bd_base.specs.declared.limits.TheConstants.{DESCRIPTORS, PROCESSES}
use Rattle.bd_entry.specs.Store.{Descriptor, distinct_pairs, pairs_of_slot, same_pair}
use Rattle.bd_kernel.specs.Changes.{AreCounted, Rows, changed_rows, pairs_of_rows, rows_with_slot, slot_at}

-- an element gives way to another with the same list
flat_map-set : {X Y : Type 0} (f : X → List Y) (xs : List X) (i : ℕ) (y none : X) → f y ≡ f (get_or xs i none) →
    flat_map f (set xs i y) ≡ flat_map f xs
flat_map-set f [] i y none same = refl
flat_map-set {X} {Y} f (x ∷ xs) zero y none same = ap (λ (ys : List Y). ys ++ flat_map f xs) same
flat_map-set {X} {Y} f (x ∷ xs) (suc i) y none same = ap (λ (ys : List Y). f x ++ ys) (flat_map-set f xs i y none same)

-- a slot gives way to one with the same pairs
pub still_counted : (pairs : ℕ) (rows : Rows) (process fd : ℕ) (slot : Option Descriptor) →
    pairs_of_slot slot ≡ pairs_of_slot (slot_at rows process fd) → AreCounted pairs rows → AreCounted pairs (rows_with_slot rows process fd slot)
still_counted pairs rows process fd slot same counted =
    let row = get_or rows process [] in
    let pairs_stay : pairs_of_rows rows ≡ pairs_of_rows (rows_with_slot rows process fd slot) =
    ap distinct_pairs (sym (flat_map-set (flat_map pairs_of_slot) rows process (set row fd slot) [] (flat_map-set pairs_of_slot row fd slot None same))) in
    record {
      few = omega (arith, length-set rows process (set row fd slot), counted.few);
      counted = counted.counted ∙ ap (λ (ps : List (ℕ × ℕ)). length ps) pairs_stay;
      there = λ pair used. counted.there pair (ap (list_any (same_pair pair)) pairs_stay ∙ used);
    }

-- the rows that are lent out come back with a change that leaves the pairs of each descriptor
pub change_counted : (pairs : ℕ) (rows lent new : Rows) (process fd : ℕ) (change : Descriptor → Descriptor) →
    ((d : Descriptor) → pairs_of_slot (Some (change d)) ≡ pairs_of_slot (Some d)) → lent ≡ rows → new ≡ changed_rows lent process fd change →
    AreCounted pairs rows → AreCounted pairs new
change_counted pairs rows lent new process fd change keeps is becomes counted =
    subst (AreCounted pairs) (sym becomes)
    (still_counted pairs lent process fd _ (same (slot_at lent process fd)) (subst (AreCounted pairs) (sym is) counted))
  where
    same : (slot : Option Descriptor) → pairs_of_slot (option_map change slot) ≡ pairs_of_slot slot
    same None = refl
    same (Some d) = keeps d

-- a row that is lent out comes back with a slot that has no right, in the place of one that had none
pub put_counted : (pairs : ℕ) (rows : Rows) (process fd : ℕ) (slot : Option Descriptor) (lent new : List (Option Descriptor)) →
    process < length rows → lent ≡ get_or rows process lent → new ≡ set lent fd slot → pairs_of_slot (slot_at rows process fd) ≡ [] →
    pairs_of_slot slot ≡ [] → AreCounted pairs rows → AreCounted pairs (set rows process new)
put_counted pairs rows process fd slot lent new within is becomes old none counted =
    let here : lent ≡ get_or rows process [] = is ∙ get_or_default rows process lent [] within in
    subst (λ (row : List (Option Descriptor)). AreCounted pairs (set rows process row))
    (sym (becomes ∙ ap (λ (row : List (Option Descriptor)). set row fd slot) here))
    (still_counted pairs rows process fd slot (none ∙ sym old) counted)

-- ---- no pair at the start

none_in_row : (slots : ℕ) → flat_map pairs_of_slot (replicate slots None) ≡ []
none_in_row zero = refl
none_in_row (suc slots) = none_in_row slots

none_in_rows : (rows slots : ℕ) → flat_map (flat_map pairs_of_slot) (replicate rows (replicate slots None)) ≡ []
none_in_rows zero slots = refl
none_in_rows (suc rows) slots =
    ap (λ (ps : List (ℕ × ℕ)). ps ++ flat_map (flat_map pairs_of_slot) (replicate rows (replicate slots None))) (none_in_row slots)
    ∙ none_in_rows rows slots

-- rows with nothing open
pub none_counted : (rows : ℕ) (made : Rows) → rows ≤ PROCESSES → made ≡ replicate rows (replicate DESCRIPTORS None) → AreCounted 0 made
none_counted rows made few is =
    let row : List (Option Descriptor) = replicate DESCRIPTORS None in
    let none : pairs_of_rows made ≡ [] = ap pairs_of_rows is ∙ ap distinct_pairs (none_in_rows rows DESCRIPTORS) in
    let count : length made ≡ rows = ap (λ (xs : Rows). length xs) is ∙ length-replicate rows row in
    record {
      few = omega arith;
      counted = ap (λ (ps : List (ℕ × ℕ)). length ps) (sym none);
      there = λ pair used. absurd (false≢true (ap (list_any (same_pair pair)) (sym none) ∙ used));
    }
