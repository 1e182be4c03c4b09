-- Ranges of numbers: one more at the end, what is in them, and the lowest that passes a test; ranges of bytes by their ends.
use Rattle.std.proofs.Common.{◌≡◌, ℕ, zero, suc, ◌+◌, ◌-◌, ◌<◌, ◌≤◌, Bool, true, false, Some, None, [], ◌∷◌, ◌++◌, map, map-id, add-one, add-zero, arith, refl, sym, ap, ◌∙◌, inl, inr, slice_get, subst}
use Rattle.std.specs.List.{find, range_with_len, Contains}
use Rattle.std.proofs.lemmas.Bool.{cond-true, cond-false, cases_eq, cases_Bool}
use Rattle.std.proofs.lemmas.List.FromFn.{get_or-range_with_len, length-range_with_len, map-range_with_len_more}
use Rattle.std.proofs.lemmas.Option.{none-some, same_Some}
use Rattle.bd_base.specs.Bounds.{Bounds}

-- one number more at the end
pub range_with_len-push : (a n : ℕ) → range_with_len a (n + 1) ≡ range_with_len a n ++ (a + n) ∷ []
range_with_len-push a n =
    sym (map-id (range_with_len a (n + 1))) ∙ map-range_with_len_more (λ x. x) a n (a + n) refl
    ∙ ap (λ l. l ++ (a + n) ∷ []) (map-id (range_with_len a n))

pub range_with_len-suc : (a n : ℕ) → range_with_len a (suc n) ≡ range_with_len a n ++ (a + n) ∷ []
range_with_len-suc a n = ap (range_with_len a) (sym (add-one n)) ∙ range_with_len-push a n

-- an item of a list that is made from the numbers from a on
pub get-map-range : {X : Type 0} (f : ℕ → X) (a n k : ℕ) (x : X) → slice_get (map f (range_with_len a n)) k ≡ Some x → (k < n) × (f (a + k) ≡ x)
get-map-range f a zero k x e = absurd (none-some x e)
get-map-range f a (suc n) zero x e = (omega arith, rw add-zero (same_Some _ _ e))
get-map-range f a (suc n) (suc k) x e =
    let rest = get-map-range f (a + 1) n k x e in
    let same : a + 1 + k ≡ a + suc k = omega arith in
    (omega arith, rw (← same) rest.1)

-- ---- what is in a range

pub range-to : (a n x : ℕ) → Contains (range_with_len a n) x → (a ≤ x) × (x < a + n)
range-to a n x has =
    let low : has.0 < n = omega (arith, has.1, length-range_with_len a n) in
    let at : a + has.0 ≡ x = sym (get_or-range_with_len a n has.0 x low) ∙ has.2 in
    (omega arith, omega arith)

pub range-of : (a n x : ℕ) → (a ≤ x) × (x < a + n) → Contains (range_with_len a n) x
range-of a n x within =
    let low : x - a < n = omega (arith, within.0, within.1) in
    let at : a + (x - a) ≡ x = omega (arith, within.0) in
    (x - a, omega (arith, length-range_with_len a n), get_or-range_with_len a n (x - a) x low ∙ at)

-- ---- the lowest number that passes a test

-- the test passes at b and at no lower number of the range
pub find-range : (p : ℕ → Bool) (a n b : ℕ) → a ≤ b → b < a + n → p b ≡ true
    → ((k : ℕ) → a ≤ k → k < b → p k ≡ false) → find p (range_with_len a n) ≡ Some b
find-range p a zero b from to passes before = absurd (omega arith)
find-range p a (suc n) b from to passes before =
    elim (cases_eq a b) [
      | inl same ↦ cond-true (p a) _ _ (subst (λ k. p k ≡ true) (sym same) passes) ∙ ap Some same
      | inr other ↦
          let below : a < b = omega arith in
          cond-false (p a) _ _ (before a (omega arith) below)
          ∙ find-range p (a + 1) n b (omega arith) (omega arith) passes (λ k l h. before k (omega arith) h)
    ]

-- the test passes nowhere in the range
pub find-range_none : (p : ℕ → Bool) (a n : ℕ) → ((k : ℕ) → a ≤ k → k < a + n → p k ≡ false)
    → find p (range_with_len a n) ≡ None
find-range_none p a zero fails = refl
find-range_none p a (suc n) fails =
    cond-false (p a) _ _ (fails a (omega arith) (omega arith))
    ∙ find-range_none p (a + 1) n (λ k l h. fails k (omega arith) (omega arith))

-- what was not found passes nowhere
pub find-range_fails : (p : ℕ → Bool) (a n : ℕ) → find p (range_with_len a n) ≡ None
    → (k : ℕ) → a ≤ k → k < a + n → p k ≡ false
find-range_fails p a zero none k from to = absurd (omega arith)
find-range_fails p a (suc n) none k from to =
    elim (cases_Bool (p a)) [
      | inl holds ↦ absurd (none-some a (sym none ∙ cond-true (p a) _ _ holds))
      | inr fails_here ↦
          elim (cases_eq a k) [
            | inl same ↦ subst (λ j. p j ≡ false) same fails_here
            | inr other ↦
                find-range_fails p (a + 1) n (sym (cond-false (p a) _ _ fails_here) ∙ none) k (omega arith) (omega arith)
          ]
    ]

-- what was found passes, is in the range, and is the lowest
pub record IsLowest (p : ℕ → Bool) (a n b : ℕ) : Type 0 where
  pub passes : p b ≡ true
  pub from : a ≤ b
  pub to : b < a + n
  pub before : (k : ℕ) → a ≤ k → k < b → p k ≡ false

pub find-range_lowest : (p : ℕ → Bool) (a n b : ℕ) → find p (range_with_len a n) ≡ Some b → IsLowest p a n b
find-range_lowest p a zero b found = absurd (none-some b found)
find-range_lowest p a (suc n) b found =
    elim (cases_Bool (p a)) [
      | inl holds ↦
          let same : a ≡ b = (let e : Some a ≡ Some b = sym (cond-true (p a) _ _ holds) ∙ found in cc) in
          record {
            passes = subst (λ j. p j ≡ true) same holds;
            from = omega arith;
            to = omega arith;
            before = λ k l h. absurd (omega arith);
          }
      | inr fails_here ↦
          let later : IsLowest p (a + 1) n b = find-range_lowest p (a + 1) n b (sym (cond-false (p a) _ _ fails_here) ∙ found) in
          record {
            passes = later.passes;
            from = omega arith;
            to = omega arith;
            before = λ k l h. elim (cases_eq a k) [
              | inl same ↦ subst (λ j. p j ≡ false) same fails_here
              | inr other ↦ later.before k (omega arith) h
            ];
          }
    ]

-- ranges of bytes with the same ends are the same
pub bounds-same : (r q : Bounds) → r.lo ≡ q.lo → r.hi ≡ q.hi → r ≡ q
bounds-same r q lo hi =
    ap (λ (n : ℕ). let b : Bounds = record { lo = n; hi = r.hi } in b) lo
    ∙ ap (λ (n : ℕ). let b : Bounds = record { lo = q.lo; hi = n } in b) hi
