-- Elements of lists that pass a test, and what holds of all of them.
use Rattle.std.proofs.Common.{◌≡◌, ℕ, ◌+◌, ◌<◌, suc, Bool, true, List, [], ◌∷◌, length, Some, refl, sym, ap, ◌∙◌, subst, arith, ⊎_elim}
use Rattle.std.specs.Prelude.{nat_eq, slice_get, All, IsSome}
use Rattle.std.specs.List.{enumerate_from, find, flat_map, list_any}
use Rattle.std.proofs.lemmas.Bool.{cases_Bool, cond-false, cond-true, eqb-true, false≢true, or_cases}
use Rattle.std.proofs.lemmas.List.Elements.{All-append, All-head, All-nil, All-tail}
use Rattle.std.proofs.lemmas.Option.{none-some, same_Some, slice_get-get_or}
use Rattle.bd_entry.proofs.NextActs.{is_there}

-- an element that a test finds passes it, and has what holds of all
pub list_any-element : {X : Type 0} (P : X → Type 0) (test : X → Bool) (xs : List X) → All P xs → list_any test xs ≡ true →
    (x : X) × (test x ≡ true) × P x
list_any-element P test [] all some = absurd (false≢true some)
list_any-element P test (x ∷ xs) all some =
    ⊎_elim
    (λ here. (x, here, All-head P x xs all))
    (λ later. list_any-element P test xs (All-tail P x xs all) later)
    (or_cases (test x) (list_any test xs) some)

-- what holds of all elements holds of a number among them
pub All-found : (P : ℕ → Type 0) (xs : List ℕ) (x : ℕ) → All P xs → list_any (nat_eq x) xs ≡ true → P x
All-found P xs x all some =
    let found = list_any-element P (nat_eq x) xs all some in
    subst P (sym (eqb-true x found.0 found.1)) found.2

-- the first element that passes a test passes it, and has what holds of all
pub find-element : {X : Type 0} (P : X → Type 0) (test : X → Bool) (xs : List X) (x : X) → All P xs → find test xs ≡ Some x →
    (test x ≡ true) × P x
find-element P test [] x all is = absurd (none-some x is)
find-element P test (y ∷ ys) x all is =
    ⊎_elim {C = (test x ≡ true) × P x}
    (λ passes.
    let here : y ≡ x = same_Some y x (sym (cond-true (test y) (Some y) (find test ys) passes) ∙ is) in
    (ap test (sym here) ∙ passes, subst P here (All-head P y ys all)))
    (λ fails.
    find-element P test ys x (All-tail P y ys all) (sym (cond-false (test y) (Some y) (find test ys) fails) ∙ is))
    (cases_Bool (test y))

-- there is an element below the length
pub slice_get-there : {X : Type 0} (xs : List X) (i : ℕ) → i < length xs → IsSome (slice_get xs i)
slice_get-there [] i lt = absurd (omega (lt, arith))
slice_get-there (x ∷ xs) i lt = is_there (slice_get (x ∷ xs) i) _ (slice_get-get_or (x ∷ xs) i x lt)

-- what holds of all that is made of each element of a list with its place holds of all that is made of the list
pub All-made : {X A : Type 0} (P : A → Type 0) (f : ℕ × X → List A) (n : ℕ) (xs : List X) →
    ((i : ℕ) (x : X) → slice_get xs i ≡ Some x → All P (f (n + i, x))) → All P (flat_map f (enumerate_from n xs))
All-made P f n [] each = All-nil P
All-made P f n (x ∷ xs) each =
    let first : n + 0 ≡ n = omega arith in
    All-append P (f (n, x)) (flat_map f (enumerate_from (n + 1) xs))
    (subst (λ (m : ℕ). All P (f (m, x))) first (each 0 x refl))
    (All-made P f (n + 1) xs
    (λ i y is.
    let place : n + suc i ≡ n + 1 + i = omega arith in
    subst (λ (m : ℕ). All P (f (m, y))) place (each (suc i) y is)))
