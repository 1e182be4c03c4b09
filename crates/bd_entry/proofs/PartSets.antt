-- Sets of parts as ascending lists, as a part joins or leaves one.
use Rattle.std.proofs.Common.{◌≡◌, ℕ, ◌+◌, ◌<◌, ◌≤◌, Bool, true, false, ◌||◌, cond, not, List, [], ◌∷◌, zero, suc, refl, sym, subst, arith}
use Rattle.std.specs.Prelude.{nat_eq, nat_lt, slice_index_or, All, IsTrue}
use Rattle.std.specs.List.{AllPairs}
use Rattle.std.specs.List.Sorted.{IsStrictlyIncreasing}
use Rattle.std.proofs.lemmas.Bool.{cond_both, eqb-false, eqb-true, ltb-false, ltb-true, not-true, not_from_false}
use Rattle.std.proofs.lemmas.List.Elements.{All-cons, All-filter, All-head, All-nil, All-tail, filter_passes}
use Rattle.std.proofs.lemmas.List.Kept.{AllPairs-cons, AllPairs-from_increasing, IsStrictlyIncreasing-filter}
use Rattle.std.proofs.lemmas.Map.Views.{any-filter_same}
use Rattle.bd_entry.specs.Store.{has_part, with_part, without_part}

-- ---- a part joins

-- of the parts of a set and the one that joins it
pub All-with_part : (P : ℕ → Type 0) (part : ℕ) (xs : List ℕ) → P part → All P xs → All P (with_part part xs)
All-with_part P part [] new all = All-cons P part [] new (All-nil P)
All-with_part P part (x ∷ xs) new all =
    cond_both (nat_lt part x) (part ∷ x ∷ xs) (cond (nat_eq part x) (x ∷ xs) (x ∷ with_part part xs)) (All P)
    (λ first. All-cons P part (x ∷ xs) new all)
    (λ later.
    cond_both (nat_eq part x) (x ∷ xs) (x ∷ with_part part xs) (All P)
    (λ same. all)
    (λ other. All-cons P x (with_part part xs) (All-head P x xs all) (All-with_part P part xs new (All-tail P x xs all))))

pairs_tail : (x : ℕ) (xs : List ℕ) → AllPairs (λ a b. a < b) (x ∷ xs) → AllPairs (λ a b. a < b) xs
pairs_tail x xs all i j d lt within = all (suc i) (suc j) d (omega arith) (omega arith)

pairs_head : (x : ℕ) (xs : List ℕ) → AllPairs (λ a b. a < b) (x ∷ xs) → All (λ y. x < y) xs
pairs_head x xs all k d within = all zero (suc k) d (omega arith) (omega arith)

-- each element is above the first of a list in order
above_first : (part x : ℕ) (xs : List ℕ) → part < x → All (λ y. x < y) xs → All (λ y. part < y) (x ∷ xs)
above_first part x xs lt all zero d within = lt
above_first part x xs lt all (suc k) d within = let above : x < slice_index_or xs k d = all k d (omega arith) in omega arith

AllPairs-with_part : (part : ℕ) (xs : List ℕ) → AllPairs (λ a b. a < b) xs → AllPairs (λ a b. a < b) (with_part part xs)
AllPairs-with_part part [] all = AllPairs-cons (λ a b. a < b) part [] (All-nil (λ y. part < y)) all
AllPairs-with_part part (x ∷ xs) all =
    let R : ℕ → ℕ → Type 0 = λ a b. a < b in
    let head = pairs_head x xs all in
    cond_both (nat_lt part x) (part ∷ x ∷ xs) (cond (nat_eq part x) (x ∷ xs) (x ∷ with_part part xs)) (AllPairs R)
    (λ first. AllPairs-cons R part (x ∷ xs) (above_first part x xs (ltb-true part x first) head) all)
    (λ later.
    cond_both (nat_eq part x) (x ∷ xs) (x ∷ with_part part xs) (AllPairs R)
    (λ same. all)
    (λ other.
    let low : x ≤ part = ltb-false part x later in
    let ne : part ≡ x → ⊥ = eqb-false part x other in
    let above : x < part = omega arith in
    AllPairs-cons R x (with_part part xs) (All-with_part (λ y. x < y) part xs above head) (AllPairs-with_part part xs (pairs_tail x xs all))))

-- the set stays in order
pub increasing-with_part : (part : ℕ) (xs : List ℕ) → IsStrictlyIncreasing xs → IsStrictlyIncreasing (with_part part xs)
increasing-with_part part xs up k within = AllPairs-with_part part xs (AllPairs-from_increasing xs up) k (k + 1) 0 (omega arith) within

or_true : (a b : Bool) → IsTrue b → IsTrue (a || b)
or_true true b h = refl
or_true false b h = h

-- the parts of the set stay in it
pub has_part-with_part : (q part : ℕ) (xs : List ℕ) → IsTrue (has_part q xs) → IsTrue (has_part q (with_part part xs))
has_part-with_part q part [] h = or_true (nat_eq q part) false h
has_part-with_part q part (x ∷ xs) h =
    cond_both (nat_lt part x) (part ∷ x ∷ xs) (cond (nat_eq part x) (x ∷ xs) (x ∷ with_part part xs)) (λ ys. IsTrue (has_part q ys))
    (λ first. or_true (nat_eq q part) (has_part q (x ∷ xs)) h)
    (λ later.
    cond_both (nat_eq part x) (x ∷ xs) (x ∷ with_part part xs) (λ ys. IsTrue (has_part q ys))
    (λ same. h)
    (λ other.
    elim (nat_eq q x) as (λ b. IsTrue (b || has_part q xs) → IsTrue (b || has_part q (with_part part xs))) [
      | true ↦ λ here. refl
      | false ↦ λ there. has_part-with_part q part xs there
    ] h))

-- ---- a part leaves

pub increasing-without_part : (part : ℕ) (xs : List ℕ) → IsStrictlyIncreasing xs → IsStrictlyIncreasing (without_part part xs)
increasing-without_part part xs up = IsStrictlyIncreasing-filter (λ other. not (nat_eq part other)) xs up

pub All-without_part : (P : ℕ → Type 0) (part : ℕ) (xs : List ℕ) → All P xs → All P (without_part part xs)
All-without_part P part xs all = All-filter (λ other. not (nat_eq part other)) P xs all

-- another part is in the set as it was
pub has_part-without_part : (q part : ℕ) (xs : List ℕ) → nat_eq part q ≡ false → has_part q (without_part part xs) ≡ has_part q xs
has_part-without_part q part xs other =
    any-filter_same (nat_eq q) (λ x. not (nat_eq part x)) true
    (λ x is. subst (λ (n : ℕ). not (nat_eq part n) ≡ true) (eqb-true q x is) (not_from_false (nat_eq part q) other)) xs

-- what is left of one set is in what is left of another, where it was there before
pub without_part-within : (part : ℕ) (cleared attached : List ℕ) → All (λ q. IsTrue (has_part q attached)) cleared →
    All (λ q. IsTrue (has_part q (without_part part attached))) (without_part part cleared)
without_part-within part cleared attached all k d within =
    let q = slice_index_or (without_part part cleared) k d in
    let other : nat_eq part q ≡ false = not-true (nat_eq part q) (filter_passes (λ x. not (nat_eq part x)) cleared k d within) in
    subst IsTrue (sym (has_part-without_part q part attached other)) (All-without_part (λ x. IsTrue (has_part x attached)) part cleared all k d within)
