-- How many of the calls that fail came before another call.
use Rattle.std.proofs.Common.{◌≡◌, ℕ, ◌+◌, ◌^◌, ◌<◌, ◌≤◌, Bool, true, false, ◌||◌, cond, List, [], ◌∷◌, Option, None, Some, count_by, arith, sym, subst, refl}
use Rattle.std.specs.Prelude.{nat_eq}
use Rattle.std.specs.List.{list_any}
use Rattle.std.specs.Bool.{OnTrue}
use Rattle.std.specs.Option.{SomeIff}
use Rattle.std.proofs.lemmas.Bool.{eqb-true, false≢true, lt-ltb, ltb-true, le-ltb}
use Rattle.std.proofs.lemmas.List.Sums.{sum_by-cons}
use Rattle.bd_outside.specs.Numbered.{is_before, Calls, faults_before}

-- a test that passes where another does counts no less
le-step : (p q : Bool) (a b : ℕ) → (p ≡ true → q ≡ true) → a ≤ b → cond p 1 0 + a ≤ cond q 1 0 + b
le-step false false a b more h = omega arith
le-step false true a b more h = omega arith
le-step true q a b more h = rw (more refl) (omega arith)

lt-step : (p q : Bool) (a b : ℕ) → (p ≡ true → q ≡ true) → a < b → cond p 1 0 + a < cond q 1 0 + b
lt-step false false a b more h = omega arith
lt-step false true a b more h = omega arith
lt-step true q a b more h = rw (more refl) (omega arith)

module _ (p q : ℕ → Bool) (more : (x : ℕ) → p x ≡ true → q x ≡ true) where
  pub count_by-le : (xs : List ℕ) → count_by p xs ≤ count_by q xs
  count_by-le [] = omega arith
  count_by-le (x ∷ xs) =
      let step : cond (p x) 1 0 + count_by p xs ≤ cond (q x) 1 0 + count_by q xs = le-step (p x) (q x) _ _ (more x) (count_by-le xs) in
      omega (arith, step, sum_by-cons (λ y. cond (p y) 1 0) x xs, sum_by-cons (λ y. cond (q y) 1 0) x xs)

  -- and more, where a number is in the list at which only the second test passes
  found : (n x a b : ℕ) (is here : Bool) → nat_eq x n ≡ here → (here || is) ≡ true → p n ≡ false → q n ≡ true
      → a ≤ b → (is ≡ true → a < b) → cond (p x) 1 0 + a < cond (q x) 1 0 + b
  found n x a b true here e any fails passes le lt = lt-step (p x) (q x) a b (more x) (lt refl)
  found n x a b false false e any fails passes le lt = absurd (false≢true any)
  found n x a b false true e any fails passes le lt = rw (eqb-true x n e, fails, passes) (omega arith)

  pub count_by-lt : (n : ℕ) (xs : List ℕ) → list_any (λ m. nat_eq m n) xs ≡ true → p n ≡ false → q n ≡ true
      → count_by p xs < count_by q xs
  count_by-lt n [] any fails passes = absurd (false≢true any)
  count_by-lt n (x ∷ xs) any fails passes =
      let step : cond (p x) 1 0 + count_by p xs < cond (q x) 1 0 + count_by q xs =
      found n x _ _ (list_any (λ m. nat_eq m n) xs) (nat_eq x n) refl any fails passes (count_by-le xs)
      (λ later. count_by-lt n xs later fails passes) in
      omega (arith, step, sum_by-cons (λ y. cond (p y) 1 0) x xs, sum_by-cons (λ y. cond (q y) 1 0) x xs)

-- the call before the next one, and those before it, came before the next one
still_before : (n : ℕ) (next : Option ℕ) → SomeIff next (n + 1 < 2 ^ 64) (n + 1) → (m : ℕ) → is_before (Some n) m ≡ true → is_before next m ≡ true
still_before n None h m before = refl
still_before n (Some next) h m before = lt-ltb m next (omega (arith, h.1, ltb-true m n before))

now_before : (n : ℕ) (next : Option ℕ) → SomeIff next (n + 1 < 2 ^ 64) (n + 1) → is_before next n ≡ true
now_before n None h = refl
now_before n (Some next) h = lt-ltb n next (omega (arith, h.1))

-- a call, and what is next after it
module _ (old : Calls) (n : ℕ) (next : Option ℕ) (fails : List ℕ) where
  -- the count of the calls that failed does not fall with a call
  pub faults-le-next : record { next = Some n; fails = fails } ≡ old → SomeIff next (n + 1 < 2 ^ 64) (n + 1)
      → faults_before old ≤ faults_before (record { next = next; fails = fails })
  faults-le-next is h =
      subst (λ (o : Calls). faults_before o ≤ count_by (is_before next) fails) is
      (count_by-le (is_before (Some n)) (is_before next) (still_before n next h) fails)

  -- and it rises with a call that fails
  pub faults-lt-next : (r : Bool) → record { next = Some n; fails = fails } ≡ old → SomeIff next (n + 1 < 2 ^ 64) (n + 1)
      → r ≡ list_any (λ m. nat_eq m n) fails → OnTrue r (faults_before old < faults_before (record { next = next; fails = fails }))
  faults-lt-next false is h e = tt
  faults-lt-next true is h e =
      subst (λ (o : Calls). faults_before o < count_by (is_before next) fails) is
      (count_by-lt (is_before (Some n)) (is_before next) (still_before n next h) n fails (sym e) (le-ltb n n (omega arith)) (now_before n next h))
