-- Marks of a range of numbers.
use Rattle.std.proofs.Common.{◌≡◌, ℕ, zero, suc, ◌+◌, ◌<◌, ◌≤◌, Bool, true, false, replicate, refl, arith, inl, inr, subst, sym}
use Rattle.std.specs.List.{list_all, range_with_len}
use Rattle.std.proofs.lemmas.Bool.{and_from, and_left, and_right, cases_eq, cases_order}
use Rattle.std.proofs.lemmas.List.{get_or-replicate, get_or_past, length-replicate}
use Rattle.bd_kernel.specs.Marks.{is_marked}

-- each number of a range passes
pub all_pass : (p : ℕ → Bool) (a n : ℕ) → ((k : ℕ) → a ≤ k → k < a + n → p k ≡ true) → list_all p (range_with_len a n) ≡ true
all_pass p a zero each = refl
all_pass p a (suc n) each =
    and_from (p a) (list_all p (range_with_len (a + 1) n)) (each a (omega arith) (omega arith))
    (all_pass p (a + 1) n (λ k low below. each k (omega arith) (omega arith)))

-- one does not
pub one_fails : (p : ℕ → Bool) (a n b : ℕ) → a ≤ b → b < a + n → p b ≡ false → list_all p (range_with_len a n) ≡ false
one_fails p a zero b low below fails = absurd (omega arith)
one_fails p a (suc n) b low below fails =
    elim (cases_eq a b) [
      | inl same ↦ and_left (p a) (list_all p (range_with_len (a + 1) n)) (subst (λ (k : ℕ). p k ≡ false) (sym same) fails)
      | inr other ↦ and_right (p a) (list_all p (range_with_len (a + 1) n)) (one_fails p (a + 1) n b (omega arith) (omega arith) fails)
    ]

-- no mark of a list of unset ones is set
pub unset : (n q : ℕ) → is_marked (replicate n false) q ≡ false
unset n q =
    elim (cases_order q n) [
      | inl same ↦ get_or_past (replicate n false) q false (omega (arith, length-replicate n false))
      | inr order ↦
          elim order [
            | inl below ↦ get_or-replicate n q false false below
            | inr above ↦ get_or_past (replicate n false) q false (omega (arith, length-replicate n false))
          ]
    ]
