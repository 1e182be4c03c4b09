-- Counting: one where a test passes, and how often a number stands in a list.
use Rattle.std.proofs.Common.{◌≡◌, ℕ, ◌+◌, ◌≤◌, Bool, true, false, cond, nat_eq, count_by, List, [], ◌∷◌, ◌++◌, arith, refl}
use Rattle.std.proofs.lemmas.Bool.{eq-eqb, ne_eqb}
use Rattle.std.proofs.lemmas.List.Sums.{sum_by_push}

-- 1 where a test passes, else 0
abbrev pub one_if : Bool → ℕ
one_if passes = cond passes 1 0

pub one_if-le : (b : Bool) → one_if b ≤ 1
one_if-le true = omega arith
one_if-le false = omega arith

pub one_if-same : (b c : ℕ) → b ≡ c → one_if (nat_eq b c) ≡ 1
one_if-same b c same = rw (eq-eqb b c same) refl

pub one_if-other : (b c : ℕ) → (b ≡ c → ⊥) → one_if (nat_eq b c) ≡ 0
one_if-other b c other = rw (ne_eqb b c other) refl

-- one more number
pub count_by-push : (b : ℕ) (bs : List ℕ) (c : ℕ) →
    count_by (nat_eq b) (bs ++ c ∷ []) ≡ count_by (nat_eq b) bs + one_if (nat_eq b c)
count_by-push b bs c = sum_by_push (λ x. one_if (nat_eq b x)) bs c
