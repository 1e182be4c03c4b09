-- Sums of numbers: with one of them changed, with each of them smaller, and of lists and ranges.
use Rattle.std.proofs.Common.{◌≡◌, ◌≢◌, ℕ, zero, suc, ◌+◌, ◌*◌, ◌<◌, ◌≤◌, List, [], ◌∷◌, length, map, refl, sym, ap, ◌∙◌, subst, arith, get_or, ⊎_elim}
use Rattle.std.specs.Prelude.{sum}
use Rattle.std.specs.List.{range_with_len}
use Rattle.std.proofs.lemmas.Bool.{cases_eq}
use Rattle.std.proofs.lemmas.List.Sums.{sum_by-cons}

pub sum-cons : (x : ℕ) (xs : List ℕ) → sum (x ∷ xs) ≡ x + sum xs
sum-cons x xs = sum_by-cons (λ (n : ℕ). n) x xs

-- the sum of these numbers of a range
abbrev pub sum_from : (ℕ → ℕ) → ℕ → ℕ → ℕ
sum_from f a n = sum (map f (range_with_len a n))

pub sum_from-suc : (f : ℕ → ℕ) (a n : ℕ) → sum_from f a (suc n) ≡ f a + sum_from f (a + 1) n
sum_from-suc f a n = sum-cons (f a) (map f (range_with_len (a + 1) n))

-- each number at most the other
pub sum_less : (f g : ℕ → ℕ) (a n : ℕ) → ((i : ℕ) → f i ≤ g i) → sum_from f a n ≤ sum_from g a n
sum_less f g a zero each = omega arith
sum_less f g a (suc n) each =
    let here : f a ≤ g a = each a in
    let rest : sum_from f (a + 1) n ≤ sum_from g (a + 1) n = sum_less f g (a + 1) n each in
    let one : sum_from f a (suc n) ≡ f a + sum_from f (a + 1) n = sum_from-suc f a n in
    let other : sum_from g a (suc n) ≡ g a + sum_from g (a + 1) n = sum_from-suc g a n in
    omega arith

-- and one of them below it
pub sum_below_by : (f g : ℕ → ℕ) (a n q : ℕ) → a ≤ q → q < a + n → ((i : ℕ) → f i ≤ g i) → f q + 1 ≤ g q → sum_from f a n + 1 ≤ sum_from g a n
sum_below_by f g a zero q from to each less = absurd (omega arith)
sum_below_by f g a (suc n) q from to each less =
    let one : sum_from f a (suc n) ≡ f a + sum_from f (a + 1) n = sum_from-suc f a n in
    let other : sum_from g a (suc n) ≡ g a + sum_from g (a + 1) n = sum_from-suc g a n in
    ⊎_elim
    (λ same.
    let here : f a + 1 ≤ g a = subst (λ (i : ℕ). f i + 1 ≤ g i) (sym same) less in
    let rest : sum_from f (a + 1) n ≤ sum_from g (a + 1) n = sum_less f g (a + 1) n each in
    omega arith)
    (λ differ.
    let here : f a ≤ g a = each a in
    let above : a + 1 ≤ q = omega (arith, differ) in
    let rest : sum_from f (a + 1) n + 1 ≤ sum_from g (a + 1) n = sum_below_by f g (a + 1) n q above (omega arith) each less in
    omega arith)
    (cases_eq a q)

-- each number at most this bound
pub sum_bound : (f : ℕ → ℕ) (a n most : ℕ) → ((i : ℕ) → f i ≤ most) → sum_from f a n ≤ n * most
sum_bound f a zero most each = omega arith
sum_bound f a (suc n) most each =
    let here : f a ≤ most = each a in
    let rest : sum_from f (a + 1) n ≤ n * most = sum_bound f (a + 1) n most each in
    let one : sum_from f a (suc n) ≡ f a + sum_from f (a + 1) n = sum_from-suc f a n in
    let product : suc n * most ≡ most + n * most = grind arith in
    omega arith

-- each number the same
pub sum_same : (f g : ℕ → ℕ) (a n : ℕ) → ((i : ℕ) → f i ≡ g i) → sum_from f a n ≡ sum_from g a n
sum_same f g a zero each = refl
sum_same f g a (suc n) each =
    let here : f a ≡ g a = each a in
    let rest : sum_from f (a + 1) n ≡ sum_from g (a + 1) n = sum_same f g (a + 1) n each in
    let one : sum_from f a (suc n) ≡ f a + sum_from f (a + 1) n = sum_from-suc f a n in
    let other : sum_from g a (suc n) ≡ g a + sum_from g (a + 1) n = sum_from-suc g a n in
    omega arith

same_past : (f g : ℕ → ℕ) (a n q : ℕ) → q < a → ((i : ℕ) → i ≢ q → g i ≡ f i) → sum_from g a n ≡ sum_from f a n
same_past f g a zero q past same = refl
same_past f g a (suc n) q past same =
    let here : g a ≡ f a = same a (λ is. omega arith) in
    let rest : sum_from g (a + 1) n ≡ sum_from f (a + 1) n = same_past f g (a + 1) n q (omega arith) same in
    let one : sum_from f a (suc n) ≡ f a + sum_from f (a + 1) n = sum_from-suc f a n in
    let other : sum_from g a (suc n) ≡ g a + sum_from g (a + 1) n = sum_from-suc g a n in
    omega arith

-- one number changed
pub changed_sum : (f g : ℕ → ℕ) (a n q : ℕ) → a ≤ q → q < a + n → ((i : ℕ) → i ≢ q → g i ≡ f i) → sum_from g a n + f q ≡ sum_from f a n + g q
changed_sum f g a zero q from to same = absurd (omega arith)
changed_sum f g a (suc n) q from to same =
    let one : sum_from f a (suc n) ≡ f a + sum_from f (a + 1) n = sum_from-suc f a n in
    let other : sum_from g a (suc n) ≡ g a + sum_from g (a + 1) n = sum_from-suc g a n in
    ⊎_elim
    (λ is.
    let rest : sum_from g (a + 1) n ≡ sum_from f (a + 1) n = same_past f g (a + 1) n q (omega arith) same in
    let f_is : f a ≡ f q = ap f is in
    let g_is : g a ≡ g q = ap g is in
    omega arith)
    (λ differ.
    let here : g a ≡ f a = same a differ in
    let above : a + 1 ≤ q = omega (arith, differ) in
    let rest : sum_from g (a + 1) n + f q ≡ sum_from f (a + 1) n + g q = changed_sum f g (a + 1) n q above (omega arith) same in
    omega arith)
    (cases_eq a q)

-- each number multiplied
pub sum_times : (f : ℕ → ℕ) (c a n : ℕ) → sum_from (λ i. c * f i) a n ≡ c * sum_from f a n
sum_times f c a zero = omega arith
sum_times f c a (suc n) =
    let rest : sum_from (λ i. c * f i) (a + 1) n ≡ c * sum_from f (a + 1) n = sum_times f c (a + 1) n in
    let one : sum_from f a (suc n) ≡ f a + sum_from f (a + 1) n = sum_from-suc f a n in
    let product : c * (f a + sum_from f (a + 1) n) ≡ c * f a + c * sum_from f (a + 1) n = grind arith in
    sum_from-suc (λ i. c * f i) a n ∙ ap (λ (k : ℕ). c * f a + k) rest ∙ sym product ∙ ap (λ (k : ℕ). c * k) (sym one)

-- the sum over a list by its indices
pub sum_at : {X : Type 0} (f : X → ℕ) (none : X) (xs : List X) (g : ℕ → ℕ) (a : ℕ) →
    ((i : ℕ) → i < length xs → g (a + i) ≡ f (get_or xs i none)) → sum_from g a (length xs) ≡ sum (map f xs)
sum_at f none [] g a each = refl
sum_at f none (x ∷ xs) g a each =
    let start : a + 0 ≡ a = omega arith in
    let here : g a ≡ f x = ap g (sym start) ∙ each 0 (omega arith) in
    let rest : sum_from g (a + 1) (length xs) ≡ sum (map f xs) =
    sum_at f none xs g (a + 1)
    (λ i below.
    let next : a + 1 + i ≡ a + suc i = omega arith in
    ap g next ∙ each (suc i) (omega arith)) in
    let one : sum_from g a (suc (length xs)) ≡ g a + sum_from g (a + 1) (length xs) = sum_from-suc g a (length xs) in
    let other : sum (f x ∷ map f xs) ≡ f x + sum (map f xs) = sum-cons (f x) (map f xs) in
    one ∙ ap (λ (k : ℕ). k + sum_from g (a + 1) (length xs)) here ∙ ap (λ (k : ℕ). f x + k) rest ∙ sym other
