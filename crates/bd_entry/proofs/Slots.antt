-- Rows of slots in which one slot is changed, and tests that no slot passes.
use Rattle.std.proofs.Common.{◌≡◌, ◌≢◌, ℕ, ◌<◌, Bool, false, List, [], ◌∷◌, ◌++◌, length, zero, suc, Option, None, Some, ◌⊎◌, inl, inr, refl, sym, ap, ◌∙◌, subst, arith, ⊎_elim}
use Rattle.std.specs.Prelude.{slice_index_or, slice_set, IsSome}
use Rattle.std.specs.List.{list_any}
use Rattle.std.proofs.lemmas.Bool.{false≢true, or_parts}
use Rattle.std.proofs.lemmas.List.Folds.{list_any-append}
use Rattle.std.proofs.lemmas.Option.{none-some}
use Rattle.bd_entry.specs.Store.{in_slot}

-- the successors of different numbers differ
ne_suc : (i j : ℕ) → j ≢ i → suc j ≢ suc i
ne_suc i j ne same = ne (omega arith)

-- what stands in a slot of a list with one slot changed
pub slot_cases : {X : Type 0} (xs : List (Option X)) (i : ℕ) (slot : Option X) (j : ℕ) (x : X) → in_slot (slice_set xs i slot) j ≡ Some x →
    ((j ≡ i) × (slot ≡ Some x)) ⊎ ((j ≢ i) × (in_slot xs j ≡ Some x))
slot_cases [] i slot j x e = absurd (none-some x e)
slot_cases (y ∷ xs) zero slot zero x e = inl (refl, e)
slot_cases (y ∷ xs) zero slot (suc j) x e = inr (λ same. omega arith, e)
slot_cases (y ∷ xs) (suc i) slot zero x e = inr (λ same. omega arith, e)
slot_cases (y ∷ xs) (suc i) slot (suc j) x e =
    ⊎_elim
    (λ here. inl (ap suc here.0, here.1))
    (λ other. inr (ne_suc i j other.0, other.1))
    (slot_cases xs i slot j x e)

-- what stands in a slot of a row, where one row is changed
pub row_cases : {X : Type 0} (rows : List (List (Option X))) (i : ℕ) (row : List (Option X)) (j k : ℕ) (x : X) →
    in_slot (slice_index_or (slice_set rows i row) j []) k ≡ Some x →
    ((j ≡ i) × (in_slot row k ≡ Some x)) ⊎ ((j ≢ i) × (in_slot (slice_index_or rows j []) k ≡ Some x))
row_cases [] i row j k x e = absurd (none-some x e)
row_cases (r ∷ rows) zero row zero k x e = inl (refl, e)
row_cases (r ∷ rows) zero row (suc j) k x e = inr (λ same. omega arith, e)
row_cases (r ∷ rows) (suc i) row zero k x e = inr (λ same. omega arith, e)
row_cases (r ∷ rows) (suc i) row (suc j) k x e =
    ⊎_elim
    (λ here. inl (ap suc here.0, here.1))
    (λ other. inr (ne_suc i j other.0, other.1))
    (row_cases rows i row j k x e)

-- a slot of a row that is there
pub row_within : {X : Type 0} (rows : List (List (Option X))) (j k : ℕ) (x : X) → in_slot (slice_index_or rows j []) k ≡ Some x → j < length rows
row_within [] j k x e = absurd (none-some x e)
row_within (r ∷ rows) zero k x e = omega arith
row_within (r ∷ rows) (suc j) k x e = let within : j < length rows = row_within rows j k x e in omega arith

-- a slot of a list that is there
pub slot_within : {X : Type 0} (xs : List (Option X)) (i : ℕ) (x : X) → in_slot xs i ≡ Some x → i < length xs
slot_within [] i x e = absurd (none-some x e)
slot_within (y ∷ xs) zero x e = omega arith
slot_within (y ∷ xs) (suc i) x e = let within : i < length xs = slot_within xs i x e in omega arith

-- what stands where something does
pub some_of : {X : Type 0} (o : Option X) → IsSome o → (x : X) × (o ≡ Some x)
some_of None h = absurd (false≢true h)
some_of (Some x) h = (x, refl)

-- no element passes the test, nor the new one
pub none_set : {X : Type 0} (test : X → Bool) (xs : List X) (i : ℕ) (y : X) → list_any test xs ≡ false → test y ≡ false →
    list_any test (slice_set xs i y) ≡ false
none_set test [] i y none new = refl
none_set test (x ∷ xs) zero y none new = rw new (or_parts (test x) (list_any test xs) none).1
none_set test (x ∷ xs) (suc i) y none new =
    let parts = or_parts (test x) (list_any test xs) none in
    rw parts.0 (none_set test xs i y parts.1 new)

-- then no list of these has an element that passes
pub none_row : {X : Type 0} (test : X → Bool) (rows : List (List X)) (j : ℕ) → list_any (list_any test) rows ≡ false →
    list_any test (slice_index_or rows j []) ≡ false
none_row test [] j none = refl
none_row test (r ∷ rows) zero none = (or_parts (list_any test r) (list_any (list_any test) rows) none).0
none_row test (r ∷ rows) (suc j) none = none_row test rows j (or_parts (list_any test r) (list_any (list_any test) rows) none).1

-- nor what stands in a slot
pub none_slot : {X : Type 0} (test : Option X → Bool) (xs : List (Option X)) (k : ℕ) (x : X) → list_any test xs ≡ false → in_slot xs k ≡ Some x →
    test (Some x) ≡ false
none_slot test [] k x none e = absurd (none-some x e)
none_slot test (y ∷ xs) zero x none e = subst (λ (slot : Option _). test slot ≡ false) e (or_parts (test y) (list_any test xs) none).0
none_slot test (y ∷ xs) (suc k) x none e = none_slot test xs k x (or_parts (test y) (list_any test xs) none).1 e

-- no entry of a row passes the test where none does after one has joined a row
pub none_before : {X : Type 0} (test : X → Bool) (rows : List (List X)) (i : ℕ) (y : X) (j : ℕ) →
    list_any test (slice_index_or (slice_set rows i (slice_index_or rows i [] ++ y ∷ [])) j []) ≡ false →
    list_any test (slice_index_or rows j []) ≡ false
none_before test [] i y j none = none
none_before test (r ∷ rows) zero y zero none = (or_parts (list_any test r) (list_any test (y ∷ [])) (sym (list_any-append test r (y ∷ [])) ∙ none)).0
none_before test (r ∷ rows) zero y (suc j) none = none
none_before test (r ∷ rows) (suc i) y zero none = none
none_before test (r ∷ rows) (suc i) y (suc j) none = none_before test rows i y j none

-- the entry that joined does not pass it
pub none_joined : {X : Type 0} (test : X → Bool) (rows : List (List X)) (i : ℕ) (y : X) → i < length rows →
    list_any test (slice_index_or (slice_set rows i (slice_index_or rows i [] ++ y ∷ [])) i []) ≡ false → test y ≡ false
none_joined test [] i y lt none = absurd (omega arith)
none_joined test (r ∷ rows) zero y lt none =
    (or_parts (test y) false (or_parts (list_any test r) (list_any test (y ∷ [])) (sym (list_any-append test r (y ∷ [])) ∙ none)).1).0
none_joined test (r ∷ rows) (suc i) y lt none = none_joined test rows i y (omega arith) none
