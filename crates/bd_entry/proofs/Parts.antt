-- Sets of parts that begin at 0, pieces of one block, and the pairs in use.
use Rattle.std.proofs.Common.{◌≡◌, ◌≢◌, ℕ, ◌+◌, ◌-◌, ◌/◌, ◌<◌, ◌≤◌, min, Bool, true, false, cond, not, List, [], ◌∷◌, length, suc, zero, None, Some, refl, ap, subst, arith, rules}
use Rattle.std.specs.List.{range_with_len, find, filter}
use Rattle.std.specs.Prelude.{nat_eq, nat_lt}
use Rattle.std.proofs.lemmas.Bool.Decides.{nat_tests}
use Rattle.std.proofs.Math.Nat.{div-eq_of_lt}
use Rattle.bd_base.specs.Pieces.{pieces}
use Rattle.bd_entry.specs.Store.{distinct_pairs, has_part, same_pair, with_part}

-- a part below the first is not in the range
pub part_below : (p a m : ℕ) → p < a → has_part p (range_with_len a m) ≡ false
part_below p a zero lt = refl
part_below p a (suc m) lt = let more : has_part p (range_with_len (a + 1) m) ≡ false = part_below p (a + 1) m (omega arith) in grind (arith, nat_tests)

-- nor one past the last
pub part_above : (p a m : ℕ) → a + m ≤ p → has_part p (range_with_len a m) ≡ false
part_above p a zero le = refl
part_above p a (suc m) le = let more : has_part p (range_with_len (a + 1) m) ≡ false = part_above p (a + 1) m (omega arith) in grind (arith, nat_tests)

-- the others are
pub part_inside : (p a m : ℕ) → a ≤ p → p < a + m → has_part p (range_with_len a m) ≡ true
part_inside p a zero low high = absurd (omega arith)
part_inside p a (suc m) low high =
    elim (nat_eq p a) as (λ b. nat_eq p a ≡ b → has_part p (range_with_len a (suc m)) ≡ true) [
      | true ↦ λ e. rw e refl
      | false ↦ λ e. let ne : p ≢ a = grind (arith, nat_tests) in rw (e, part_inside p (a + 1) m (omega arith) (omega arith)) refl
    ] refl

-- of the parts from a on, the first that is not below k is k
lowest_from : (k a m : ℕ) → a ≤ k → k < a + m → find (λ part. not (has_part part (range_with_len 0 k))) (range_with_len a m) ≡ Some k
lowest_from k a zero low high = absurd (omega arith)
lowest_from k a (suc m) low high =
    elim (nat_eq a k) as (λ b. nat_eq a k ≡ b → find (λ part. not (has_part part (range_with_len 0 k))) (range_with_len a (suc m)) ≡ Some k) [
      | true ↦ λ e. let same : a ≡ k = grind (arith, nat_tests) in rw (part_above a 0 k (omega arith)) (ap Some same)
      | false ↦ λ e. let ne : a ≢ k = grind (arith, nat_tests) in rw (part_inside a 0 k (omega arith) (omega arith))
          (lowest_from k (a + 1) m (omega arith) (omega arith))
    ] refl

-- the lowest part that is not attached, where the first k of n are
pub lowest : (k n : ℕ) → k < n → find (λ part. not (has_part part (range_with_len 0 k))) (range_with_len 0 n) ≡ Some k
lowest k n lt = lowest_from k 0 n (omega arith) (omega arith)

none_from : (n a m : ℕ) → a + m ≤ n → find (λ part. not (has_part part (range_with_len 0 n))) (range_with_len a m) ≡ None
none_from n a zero le = refl
none_from n a (suc m) le = rw (part_inside a 0 n (omega arith) (omega arith)) (none_from n (a + 1) m (omega arith))

-- where all are attached there is none
pub none_lowest : (n : ℕ) → find (λ part. not (has_part part (range_with_len 0 n))) (range_with_len 0 n) ≡ None
none_lowest n = none_from n 0 n (omega arith)

with_part_from : (a m : ℕ) → with_part (a + m) (range_with_len a m) ≡ range_with_len a (m + 1)
with_part_from a zero = search rules
with_part_from a (suc m) =
    let more : with_part ((a + 1) + m) (range_with_len (a + 1) m) ≡ range_with_len (a + 1) (m + 1) = with_part_from (a + 1) m in
    let same : (a + 1) + m ≡ a + suc m = omega arith in
    let joined : with_part (a + suc m) (range_with_len (a + 1) m) ≡ range_with_len (a + 1) (m + 1) =
    subst (λ (p : ℕ). with_part p (range_with_len (a + 1) m) ≡ range_with_len (a + 1) (m + 1)) same more in
    let shape : suc m + 1 ≡ suc (m + 1) = omega arith in
    let not_less : nat_lt (a + suc m) a ≡ false = grind (arith, nat_tests) in
    let not_same : nat_eq (a + suc m) a ≡ false = grind (arith, nat_tests) in
    rw (not_less, not_same, shape) (ap (λ (xs : List ℕ). a ∷ xs) joined)

-- the next part joins at the end
pub with_next_part : (k : ℕ) → with_part k (range_with_len 0 k) ≡ range_with_len 0 (k + 1)
with_next_part k = subst (λ (n : ℕ). with_part n (range_with_len 0 k) ≡ range_with_len 0 (k + 1)) (omega arith) (with_part_from 0 k)

-- a filter keeps no more than there are
pub filter_fewer : {X : Type 0} (p : X → Bool) (xs : List X) → length (filter p xs) ≤ length xs
filter_fewer p [] = omega arith
filter_fewer p (x ∷ xs) =
    let fewer : length (filter p xs) ≤ length xs = filter_fewer p xs in
    elim (p x) as (λ b. length (cond b (x ∷ filter p xs) (filter p xs)) ≤ suc (length xs)) [ true ↦ omega arith | false ↦ omega arith ]

-- there are no more distinct pairs than pairs
pub distinct_fewer : (pairs : List (ℕ × ℕ)) → length (distinct_pairs pairs) ≤ length pairs
distinct_fewer [] = omega arith
distinct_fewer (pair ∷ pairs) = omega (arith, filter_fewer (λ other. not (same_pair pair other)) (distinct_pairs pairs), distinct_fewer pairs)

-- the bytes from 0 to len - 1 of a file are one piece, where they are at most a block
pub one_piece : (len : ℕ) → 1 ≤ len → len ≤ 4096 → pieces 0 len ≡ record { index = 0; range = record { lo = 0; hi = len } } ∷ []
one_piece len least most =
    let last : (0 + len - 1) / 4096 ≡ 0 = div-eq_of_lt (omega arith) in
    let hi : min (0 + len) 4096 - 0 ≡ len = omega arith in
    rw (last, hi) refl
