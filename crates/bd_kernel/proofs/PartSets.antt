-- Sets of parts as marks: what a mark says, and what setting or clearing one does.
use Rattle.std.proofs.Common.{◌≡◌, ℕ, ◌+◌, ◌<◌, Bool, true, false, ◌||◌, not, List, [], ◌∷◌, length, zero, suc, refl, sym, ap, ◌∙◌, arith, set, get_or, add-zero}
use Rattle.std.specs.Prelude.{nat_eq, nat_lt, count_by}
use Rattle.std.proofs.lemmas.Bool.Decides.{nat_tests}
use Rattle.std.proofs.lemmas.Bool.{cond-true, cond-false}
use Rattle.std.proofs.lemmas.Grind.{common_steps}
use Rattle.bd_entry.specs.Store.{has_part, with_part, without_part}
use Rattle.bd_kernel.specs.PartMarks.{marked_from}

less : (n k : ℕ) → nat_lt (n + k) n ≡ false
less n k = grind (arith, nat_tests)

same_first : (n : ℕ) → nat_eq (n + 0) n ≡ true
same_first n = grind (arith, nat_tests)

other_first : (n k : ℕ) → nat_eq (n + suc k) n ≡ false
other_first n k = grind (arith, nat_tests)

further : (n k : ℕ) → n + suc k ≡ n + 1 + k
further n k = omega arith

-- no part below the first is marked
has_part-below : (q n : ℕ) (marks : List Bool) → q < n → has_part q (marked_from n marks) ≡ false
has_part-below q n [] lt = refl
has_part-below q n (true ∷ marks) lt =
    let ne : nat_eq q n ≡ false = grind (arith, nat_tests) in
    rw ne (has_part-below q (n + 1) marks (omega arith))
has_part-below q n (false ∷ marks) lt = has_part-below q (n + 1) marks (omega arith)

pub has_part-marked : (marks : List Bool) (n k : ℕ) → has_part (n + k) (marked_from n marks) ≡ get_or marks k false
has_part-marked [] n k = refl
has_part-marked (true ∷ marks) n zero = ap (λ (b : Bool). b || has_part (n + 0) (marked_from (n + 1) marks)) (same_first n)
has_part-marked (true ∷ marks) n (suc k) =
    ap (λ (b : Bool). b || has_part (n + suc k) (marked_from (n + 1) marks)) (other_first n k)
    ∙ ap (λ (q : ℕ). has_part q (marked_from (n + 1) marks)) (further n k) ∙ has_part-marked marks (n + 1) k
has_part-marked (false ∷ marks) n zero = has_part-below (n + 0) (n + 1) marks (omega arith)
has_part-marked (false ∷ marks) n (suc k) =
    ap (λ (q : ℕ). has_part q (marked_from (n + 1) marks)) (further n k) ∙ has_part-marked marks (n + 1) k

-- a part below all others joins in front
with_part-first : (q n : ℕ) (marks : List Bool) → q < n → with_part q (marked_from n marks) ≡ q ∷ marked_from n marks
with_part-first q n [] lt = refl
with_part-first q n (true ∷ marks) lt = let below : nat_lt q n ≡ true = grind (arith, nat_tests) in rw below refl
with_part-first q n (false ∷ marks) lt = with_part-first q (n + 1) marks (omega arith)

pub marked-insert : (marks : List Bool) (n k : ℕ) → k < length marks → marked_from n (set marks k true) ≡ with_part (n + k) (marked_from n marks)
marked-insert [] n k within = absurd (omega arith)
marked-insert (true ∷ marks) n zero within =
    sym (cond-false (nat_lt (n + 0) n) _ _ (less n 0) ∙ cond-true (nat_eq (n + 0) n) _ _ (same_first n))
marked-insert (true ∷ marks) n (suc k) within =
    ap (λ (xs : List ℕ). n ∷ xs)
    (marked-insert marks (n + 1) k (omega arith) ∙ ap (λ (q : ℕ). with_part q (marked_from (n + 1) marks)) (sym (further n k)))
    ∙ sym (cond-false (nat_lt (n + suc k) n) _ _ (less n (suc k)) ∙ cond-false (nat_eq (n + suc k) n) _ _ (other_first n k))
marked-insert (false ∷ marks) n zero within = rw add-zero (sym (with_part-first n (n + 1) marks (omega arith)))
marked-insert (false ∷ marks) n (suc k) within = rw (further n k) (marked-insert marks (n + 1) k (omega arith))

-- a part that is below all others does not leave
without_part-below : (q n : ℕ) (marks : List Bool) → q < n → without_part q (marked_from n marks) ≡ marked_from n marks
without_part-below q n [] lt = refl
without_part-below q n (true ∷ marks) lt =
    let ne : nat_eq q n ≡ false = grind (arith, nat_tests) in
    rw ne (ap (λ (xs : List ℕ). n ∷ xs) (without_part-below q (n + 1) marks (omega arith)))
without_part-below q n (false ∷ marks) lt = without_part-below q (n + 1) marks (omega arith)

pub marked-remove : (marks : List Bool) (n k : ℕ) → marked_from n (set marks k false) ≡ without_part (n + k) (marked_from n marks)
marked-remove [] n k = refl
marked-remove (true ∷ marks) n zero =
    sym (cond-false (not (nat_eq (n + 0) n)) _ _ (ap not (same_first n)) ∙ without_part-below (n + 0) (n + 1) marks (omega arith))
marked-remove (true ∷ marks) n (suc k) =
    ap (λ (xs : List ℕ). n ∷ xs) (marked-remove marks (n + 1) k ∙ ap (λ (q : ℕ). without_part q (marked_from (n + 1) marks)) (sym (further n k)))
    ∙ sym (cond-true (not (nat_eq (n + suc k) n)) _ _ (ap not (other_first n k)))
marked-remove (false ∷ marks) n zero = sym (without_part-below (n + 0) (n + 1) marks (omega arith))
marked-remove (false ∷ marks) n (suc k) = rw (further n k) (marked-remove marks (n + 1) k)

-- as many parts as marks that are set
pub length-marked : (marks : List Bool) (n : ℕ) → length (marked_from n marks) ≡ count_by (λ mark. mark) marks
length-marked [] n = refl
length-marked (true ∷ marks) n = let more : length (marked_from (n + 1) marks) ≡ count_by (λ mark. mark) marks = length-marked marks (n + 1) in grind (arith, common_steps)
length-marked (false ∷ marks) n = length-marked marks (n + 1)
