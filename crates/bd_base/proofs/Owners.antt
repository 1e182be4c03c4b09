-- A block that stands once in lists of blocks stands at one place of one list.
use Rattle.std.proofs.Common.{◌≡◌, ℕ, zero, suc, ◌+◌, ◌<◌, ◌≤◌, nat_eq, count_by, get_or, List, [], ◌∷◌, length, slice_index, slice_index_or, Option, Some, arith, refl, sym, ap, ◌∙◌, subst}
use Rattle.std.proofs.lemmas.List.Sums.{get_or-le-sum_by, sum_by-cons}
use Rattle.bd_base.specs.declared.volume.Inode.{Inode}
use Rattle.bd_base.specs.Allocation.{times_listed}
use Rattle.bd_base.specs.Inodes.{AreValidFiles, block_lists, blocks_of_slot, inode_at}
use Rattle.bd_base.proofs.Counts.{one_if, one_if-same}

-- a block stands at an index of a list of blocks
pub record StandsAt (blocks : List ℕ) (index block : ℕ) : Type 0 where
  pub inside : index < length blocks
  pub is : slice_index blocks index ≡ block

-- then it is counted
count_at : (b : ℕ) (bs : List ℕ) (i : ℕ) → StandsAt bs i b → 1 ≤ count_by (nat_eq b) bs
count_at b bs i at =
    let here : one_if (nat_eq b (get_or bs i 0)) ≤ count_by (nat_eq b) bs = get_or-le-sum_by (λ x. one_if (nat_eq b x)) bs i 0 at.inside in
    let one : one_if (nat_eq b (get_or bs i 0)) ≡ 1 = one_if-same b (get_or bs i 0) (sym at.is) in
    omega (arith, here, one)

count-cons : (b x : ℕ) (xs : List ℕ) → count_by (nat_eq b) (x ∷ xs) ≡ one_if (nat_eq b x) + count_by (nat_eq b) xs
count-cons b x xs = sum_by-cons (λ y. one_if (nat_eq b y)) x xs

later : (x : ℕ) (xs : List ℕ) (i b : ℕ) → StandsAt (x ∷ xs) (suc i) b → StandsAt xs i b
later x xs i b at = record { inside = (let within : suc i < suc (length xs) = at.inside in omega arith); is = at.is }

-- a list that has it once has it at one index
one_index : (b : ℕ) (bs : List ℕ) (i j : ℕ) → count_by (nat_eq b) bs ≤ 1 → StandsAt bs i b → StandsAt bs j b → i ≡ j
one_index b [] i j once first second = absurd (let none : i < 0 = first.inside in omega arith)
one_index b (x ∷ xs) zero zero once first second = refl
one_index b (x ∷ xs) zero (suc j) once first second =
    absurd (omega (arith, once, count-cons b x xs, one_if-same b x (sym first.is), count_at b xs j (later x xs j b second)))
one_index b (x ∷ xs) (suc i) zero once first second =
    absurd (omega (arith, once, count-cons b x xs, one_if-same b x (sym second.is), count_at b xs i (later x xs i b first)))
one_index b (x ∷ xs) (suc i) (suc j) once first second =
    ap suc (one_index b xs i j (omega (arith, once, count-cons b x xs)) (later x xs i b first) (later x xs j b second))

times-cons : (b : ℕ) (l : List ℕ) (ls : List (List ℕ)) → times_listed (l ∷ ls) b ≡ count_by (nat_eq b) l + times_listed ls b
times-cons b l ls = sum_by-cons (λ blocks. count_by (nat_eq b) blocks) l ls

times_at : (b : ℕ) (ls : List (List ℕ)) (k i : ℕ) → StandsAt (slice_index_or ls k []) i b → 1 ≤ times_listed ls b
times_at b [] k i at = absurd (let none : i < 0 = at.inside in omega arith)
times_at b (l ∷ ls) zero i at = omega (arith, times-cons b l ls, count_at b l i at)
times_at b (l ∷ ls) (suc k) i at = omega (arith, times-cons b l ls, times_at b ls k i at)

-- lists that have it once have it in one list, at one index
one_place : (b : ℕ) (ls : List (List ℕ)) (k l i j : ℕ) → times_listed ls b ≤ 1 →
    StandsAt (slice_index_or ls k []) i b → StandsAt (slice_index_or ls l []) j b → (k ≡ l) × (i ≡ j)
one_place b [] k l i j once first second = absurd (let none : i < 0 = first.inside in omega arith)
one_place b (bs ∷ ls) zero zero i j once first second = (refl, one_index b bs i j (omega (arith, once, times-cons b bs ls)) first second)
one_place b (bs ∷ ls) zero (suc l) i j once first second =
    absurd (omega (arith, once, times-cons b bs ls, count_at b bs i first, times_at b ls l j second))
one_place b (bs ∷ ls) (suc k) zero i j once first second =
    absurd (omega (arith, once, times-cons b bs ls, count_at b bs j second, times_at b ls k i first))
one_place b (bs ∷ ls) (suc k) (suc l) i j once first second =
    let both = one_place b ls k l i j (omega (arith, once, times-cons b bs ls)) first second in
    (ap suc both.0, both.1)

blocks_at : (files : List (Option Inode)) (id : ℕ) → slice_index_or (block_lists files) id [] ≡ blocks_of_slot (inode_at files id)
blocks_at [] id = refl
blocks_at (slot ∷ files) zero = refl
blocks_at (slot ∷ files) (suc id) = blocks_at files id

in_lists : (files : List (Option Inode)) (id : ℕ) (file : Inode) (i b : ℕ) → inode_at files id ≡ Some file → StandsAt file.blocks i b →
    StandsAt (slice_index_or (block_lists files) id []) i b
in_lists files id file i b there at = subst (λ (bs : List ℕ). StandsAt bs i b) (sym (blocks_at files id ∙ ap blocks_of_slot there)) at

-- a block of a file is one of no other file, and of this one at one index
pub one_owner : (total : ℕ) (files : List (Option Inode)) (k l : ℕ) (file other : Inode) (i j b : ℕ) → AreValidFiles total files →
    inode_at files k ≡ Some file → inode_at files l ≡ Some other → StandsAt file.blocks i b → StandsAt other.blocks j b → (k ≡ l) × (i ≡ j)
one_owner total files k l file other i j b valid there other_there first second =
    one_place b (block_lists files) k l i j (valid.owned_once b) (in_lists files k file i b there first) (in_lists files l other j b other_there second)
