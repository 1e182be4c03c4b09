-- How many pairs of a file and a part there may be.
use Rattle.std.proofs.Common.{◌≡◌, ◌≢◌, ℕ, ◌*◌, ◌<◌, ◌≤◌, true, List, [], ◌∷◌, ◌++◌, length, zero, suc, refl, ap, ◌∙◌, subst, arith, length-append, ⊎_elim}
use Rattle.std.specs.Prelude.{nat_eq}
use Rattle.std.specs.List.{flat_map, list_any}
use Rattle.std.proofs.lemmas.Bool.{and_from, cases_Bool, eq-eqb, eqb-false, eqb-true, or_left, or_right}
use Rattle.std.proofs.lemmas.List.Folds.{list_any-append}
use Rattle.std.proofs.lemmas.Map.Made.{length-le_from_is_member}
use Rattle.bd_base.specs.declared.limits.TheConstants.{FILES, PARTS}
use Rattle.bd_entry.specs.Store.{pairs_of_slot, same_pair}
use Rattle.bd_entry.proofs.PairsInUse.{distinct-pairs, same_pair-equivalence}
use Rattle.bd_kernel.specs.Changes.{AreCounted, IsPair, Rows, pairs_of_rows}

-- the pairs of a file and so many parts
pairs_of_file : ℕ → ℕ → List (ℕ × ℕ)
pairs_of_file file zero = []
pairs_of_file file (suc parts) = (file, parts) ∷ pairs_of_file file parts

-- the pairs of so many files
all_pairs : ℕ → List (ℕ × ℕ)
all_pairs zero = []
all_pairs (suc files) = pairs_of_file files PARTS ++ all_pairs files

length-pairs_of_file : (file parts : ℕ) → length (pairs_of_file file parts) ≡ parts
unfolding pairs_of_file
length-pairs_of_file file zero = refl
length-pairs_of_file file (suc parts) = ap suc (length-pairs_of_file file parts)

length-all_pairs : (files : ℕ) → length (all_pairs files) ≡ PARTS * files
unfolding all_pairs
length-all_pairs zero = refl
length-all_pairs (suc files) =
    let rest : length (all_pairs files) ≡ PARTS * files = length-all_pairs files in
    let first : length (pairs_of_file files PARTS) ≡ PARTS = length-pairs_of_file files PARTS in
    omega (arith, length-append (pairs_of_file files PARTS) (all_pairs files))

file-has : (q : ℕ × ℕ) (parts : ℕ) → q.1 < parts → list_any (same_pair q) (pairs_of_file q.0 parts) ≡ true
unfolding pairs_of_file
file-has q zero below = absurd (omega arith)
file-has q (suc parts) below =
    ⊎_elim
    (λ same.
    or_left (same_pair q (q.0, parts)) (list_any (same_pair q) (pairs_of_file q.0 parts))
    (and_from (nat_eq q.0 q.0) (nat_eq q.1 parts) (eq-eqb q.0 q.0 refl) same))
    (λ other.
    let ne : q.1 ≢ parts = eqb-false q.1 parts other in
    or_right (same_pair q (q.0, parts)) (list_any (same_pair q) (pairs_of_file q.0 parts)) (file-has q parts (omega arith)))
    (cases_Bool (nat_eq q.1 parts))

all-has : (q : ℕ × ℕ) (files : ℕ) → q.0 < files → q.1 < PARTS → list_any (same_pair q) (all_pairs files) ≡ true
unfolding all_pairs
all-has q zero below part = absurd (omega arith)
all-has q (suc files) below part =
    list_any-append (same_pair q) (pairs_of_file files PARTS) (all_pairs files)
    ∙ ⊎_elim
    (λ same.
    or_left (list_any (same_pair q) (pairs_of_file files PARTS)) (list_any (same_pair q) (all_pairs files))
    (subst (λ (file : ℕ). list_any (same_pair q) (pairs_of_file file PARTS) ≡ true) (eqb-true q.0 files same) (file-has q PARTS part)))
    (λ other.
    let ne : q.0 ≢ files = eqb-false q.0 files other in
    or_right (list_any (same_pair q) (pairs_of_file files PARTS)) (list_any (same_pair q) (all_pairs files)) (all-has q files (omega arith) part))
    (cases_Bool (nat_eq q.0 files))

-- there are no more than all pairs of a file and a part
pub pairs_fit : (pairs : ℕ) (rows : Rows) → AreCounted pairs rows → pairs ≤ PARTS * FILES
pairs_fit pairs rows counted =
    let most : length (pairs_of_rows rows) ≤ length (all_pairs FILES) =
    length-le_from_is_member same_pair-equivalence (pairs_of_rows rows) (all_pairs FILES) (distinct-pairs (flat_map (flat_map pairs_of_slot) rows))
    (λ q used. let is : IsPair q = counted.there q used in all-has q FILES is.file_there is.part_there) in
    let count : length (all_pairs FILES) ≡ PARTS * FILES = length-all_pairs FILES in
    let is : pairs ≡ length (pairs_of_rows rows) = counted.counted in
    omega arith
