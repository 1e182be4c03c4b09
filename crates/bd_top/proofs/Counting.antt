-- How many blocks are free: the data blocks less those that files own.
use Rattle.std.proofs.Common.{◌≡◌, ℕ, zero, suc, ◌+◌, ◌-◌, ◌<◌, ◌≤◌, true, false, cond, nat_eq, nat_le, nat_lt, List, [], ◌∷◌, length, take, count_by, Option, None, Some, All, get_or, refl, subst, inl, inr, arith}
use Rattle.std.proofs.lemmas.Bool.{cases_eq, eq-eqb, le-leb, lt-leb, lt-ltb, ne_eqb}
use Rattle.std.proofs.lemmas.List.{get_or_default}
use Rattle.std.proofs.lemmas.List.Elements.{All-map}
use Rattle.std.proofs.lemmas.List.Sums.{sum_by-cons, sum_by-take-le}
use Rattle.std.specs.List.{range_with_len, sum_by}
use Rattle.bd_base.specs.declared.volume.Inode.{Inode}
use Rattle.bd_base.specs.Allocation.{is_free_block, times_listed}
use Rattle.bd_base.specs.Files.{data_start}
use Rattle.bd_base.proofs.Counts.{one_if}
use Rattle.bd_base.proofs.ValidFiles.{data_block-within}
use Rattle.bd_top.specs.CheckLine.{owned_count}
use Rattle.bd_base.specs.Inodes.{AreFiles, block_lists, blocks_of_slot, inode_at, is_free}

-- ---- sums

-- the sum over the n numbers from a on
abbrev row_sum : (ℕ → ℕ) → ℕ → ℕ → ℕ
row_sum f a n = sum_by f (range_with_len a n)

-- a sum of sums is the sum of the two sums
sum_by-plus : {X : Type 0} (f g : X → ℕ) (xs : List X) → sum_by (λ x. f x + g x) xs ≡ sum_by f xs + sum_by g xs
sum_by-plus f g [] = refl
sum_by-plus f g (x ∷ xs) = omega (arith, sum_by-cons (λ y. f y + g y) x xs, sum_by-cons f x xs, sum_by-cons g x xs, sum_by-plus f g xs)

-- sums of the same numbers
sum_by-same : (f g : ℕ → ℕ) (n a : ℕ) → ((x : ℕ) → a ≤ x → x < a + n → f x ≡ g x) → row_sum f a n ≡ row_sum g a n
sum_by-same f g zero a same = refl
sum_by-same f g (suc n) a same =
    let rest : row_sum f (a + 1) n ≡ row_sum g (a + 1) n = sum_by-same f g n (a + 1) (λ x low high. same x (omega arith) (omega arith)) in
    let first : f a ≡ g a = same a (omega arith) (omega arith) in
    omega (arith, sum_by-cons f a (range_with_len (a + 1) n), sum_by-cons g a (range_with_len (a + 1) n), rest, first)

-- a sum of one number
sum_by-const : (c n a : ℕ) → (c ≤ 1) → row_sum (λ (x : ℕ). c) a n ≡ cond (nat_eq c 0) 0 n
sum_by-const zero zero a small = refl
sum_by-const zero (suc n) a small = omega (arith, sum_by-cons (λ (x : ℕ). 0) a (range_with_len (a + 1) n), sum_by-const 0 n (a + 1) small)
sum_by-const (suc zero) zero a small = refl
sum_by-const (suc zero) (suc n) a small = omega (arith, sum_by-cons (λ (x : ℕ). 1) a (range_with_len (a + 1) n), sum_by-const 1 n (a + 1) small)
sum_by-const (suc (suc c)) n a small = absurd (omega (arith, small))

-- ---- lists of blocks within a row of blocks

-- a block before a row is not in it
none_in : (b n a : ℕ) → b < a → row_sum (λ x. one_if (nat_eq x b)) a n ≡ 0
none_in b zero a before = refl
none_in b (suc n) a before =
    let first : one_if (nat_eq a b) ≡ 0 = rw (ne_eqb a b (λ same. omega (arith, same, before))) refl in
    omega (arith, sum_by-cons (λ x. one_if (nat_eq x b)) a (range_with_len (a + 1) n), first, none_in b n (a + 1) (omega (arith, before)))

-- a block of a row is there once
one_in : (b n a : ℕ) → a ≤ b → b < a + n → row_sum (λ x. one_if (nat_eq x b)) a n ≡ 1
one_in b zero a low high = absurd (omega (arith, low, high))
one_in b (suc n) a low high =
    let whole : sum_by (λ x. one_if (nat_eq x b)) (a ∷ range_with_len (a + 1) n) ≡ one_if (nat_eq a b) + row_sum (λ x. one_if (nat_eq x b)) (a + 1) n =
    sum_by-cons (λ x. one_if (nat_eq x b)) a (range_with_len (a + 1) n) in
    elim (cases_eq a b) [
      | inl here ↦
          let first : one_if (nat_eq a b) ≡ 1 = rw (eq-eqb a b here) refl in
          omega (arith, whole, first, none_in b n (a + 1) (omega (arith, here)))
      | inr other ↦
          let first : one_if (nat_eq a b) ≡ 0 = rw (ne_eqb a b other) refl in
          omega (arith, whole, first, one_in b n (a + 1) (omega (arith, low, other)) (omega (arith, high)))
    ]

-- blocks of a row: how often each block of the row is among them, in all
listed : (bs : List ℕ) (n a : ℕ) → All (λ b. (a ≤ b) × (b < a + n)) bs → row_sum (λ x. count_by (nat_eq x) bs) a n ≡ length bs
listed [] n a within = sum_by-const 0 n a (omega arith)
listed (b ∷ bs) n a within =
    let here : (a ≤ b) × (b < a + n) = within 0 0 (omega arith) in
    let rest : row_sum (λ x. count_by (nat_eq x) bs) a n ≡ length bs = listed bs n a (λ i d lt. within (suc i) d (omega (arith, lt))) in
    let each : row_sum (λ x. count_by (nat_eq x) (b ∷ bs)) a n ≡ row_sum (λ x. one_if (nat_eq x b) + count_by (nat_eq x) bs) a n =
    sum_by-same (λ x. count_by (nat_eq x) (b ∷ bs)) (λ x. one_if (nat_eq x b) + count_by (nat_eq x) bs) n a
    (λ x low high. sum_by-cons (λ y. one_if (nat_eq x y)) b bs) in
    omega (arith, each, sum_by-plus (λ x. one_if (nat_eq x b)) (λ x. count_by (nat_eq x) bs) (range_with_len a n), one_in b n a here.0 here.1, rest)

-- the same of lists of blocks
all_listed : (lists : List (List ℕ)) (n a : ℕ) → All (All (λ b. (a ≤ b) × (b < a + n))) lists
    → row_sum (times_listed lists) a n ≡ sum_by length lists
all_listed [] n a within = sum_by-const 0 n a (omega arith)
all_listed (bs ∷ lists) n a within =
    let here : row_sum (λ x. count_by (nat_eq x) bs) a n ≡ length bs = listed bs n a (within 0 [] (omega arith)) in
    let rest : row_sum (times_listed lists) a n ≡ sum_by length lists = all_listed lists n a (λ i d lt. within (suc i) d (omega (arith, lt))) in
    let each : row_sum (times_listed (bs ∷ lists)) a n ≡ row_sum (λ x. count_by (nat_eq x) bs + times_listed lists x) a n =
    sum_by-same (times_listed (bs ∷ lists)) (λ x. count_by (nat_eq x) bs + times_listed lists x) n a
    (λ x low high. sum_by-cons (λ (blocks : List ℕ). count_by (nat_eq x) blocks) bs lists) in
    omega (arith, each, sum_by-plus (λ x. count_by (nat_eq x) bs) (times_listed lists) (range_with_len a n), here, rest, sum_by-cons length bs lists)

-- the blocks of the files, file by file
lengths_of_lists : (files : List (Option Inode)) → sum_by length (block_lists files) ≡ owned_count files
lengths_of_lists [] = refl
lengths_of_lists (file ∷ files) =
    omega (
      arith,
      sum_by-cons length (blocks_of_slot file) (block_lists files),
      sum_by-cons (λ slot. length (blocks_of_slot slot)) file files,
      lengths_of_lists files,
    )

-- ---- free blocks

-- numbers of which the first are zero
skip_zeros : (f : ℕ → ℕ) (k m n a b : ℕ) → m ≡ k + n → b ≡ a + k → ((x : ℕ) → a ≤ x → x < b → f x ≡ 0)
    → row_sum f a m ≡ row_sum f b n
skip_zeros f zero m n a b m_is b_is zeros =
    let same_length : m ≡ n = omega (arith, m_is) in
    let same_start : b ≡ a = omega (arith, b_is) in
    rw (same_length, same_start) refl
skip_zeros f (suc k) zero n a b m_is b_is zeros = absurd (omega (arith, m_is))
skip_zeros f (suc k) (suc m) n a b m_is b_is zeros =
    let first : f a ≡ 0 = zeros a (omega arith) (omega (arith, b_is)) in
    let rest : row_sum f (a + 1) m ≡ row_sum f b n =
    skip_zeros f k m n (a + 1) b (omega (arith, m_is)) (omega (arith, b_is)) (λ x low high. zeros x (omega (arith, low)) high) in
    omega (arith, sum_by-cons f a (range_with_len (a + 1) m), first, rest)

-- a block of the metadata is not free
metadata_not_free : (total capacity : ℕ) (lists : List (List ℕ)) (x : ℕ) → x < data_start capacity
    → one_if (is_free_block total capacity lists x) ≡ 0
metadata_not_free total capacity lists x low =
    let before : nat_le (data_start capacity) x ≡ false = lt-leb (data_start capacity) x low in
    rw before refl

-- a data block that is in at most one place is free or in one place
free_or_owned : (total capacity : ℕ) (lists : List (List ℕ)) (x : ℕ) → data_start capacity ≤ x → x < total → times_listed lists x ≤ 1
    → one_if (is_free_block total capacity lists x) + times_listed lists x ≡ 1
free_or_owned total capacity lists x low high few =
    let start : nat_le (data_start capacity) x ≡ true = le-leb (data_start capacity) x low in
    let end : nat_lt x total ≡ true = lt-ltb x total high in
    elim (cases_eq (times_listed lists x) 0) [
      | inl none ↦
          let free : one_if (is_free_block total capacity lists x) ≡ 1 = rw (start, end, eq-eqb (times_listed lists x) 0 none) refl in
          omega (arith, free, none)
      | inr some ↦
          let owned : one_if (is_free_block total capacity lists x) ≡ 0 = rw (start, end, ne_eqb (times_listed lists x) 0 some) refl in
          omega (arith, owned, some, few)
    ]

-- the blocks of a file are in the data area
slot_within : (total : ℕ) (files : List (Option Inode)) → AreFiles total files → (n i : ℕ) → total ≡ data_start (length files) + n
    → (slot : Option Inode) → inode_at files i ≡ slot
    → All (λ b. (data_start (length files) ≤ b) × (b < data_start (length files) + n)) (blocks_of_slot slot)
slot_within total files are n i all None is = λ j d lt. absurd (omega (arith, lt))
slot_within total files are n i all (Some file) is = λ j d lt.
    let within : (data_start (length files) ≤ get_or file.blocks j d) × (get_or file.blocks j d < total) =
    data_block-within total (length files) (get_or file.blocks j d) ((are.valid.each i file is).in_data_area j d lt) in
    (within.0, omega (arith, within.1, all))

-- the free blocks, those of files and those of the metadata are all
pub free_and_owned : (total : ℕ) (files : List (Option Inode)) → AreFiles total files
    → count_by (is_free total files) (range_with_len 0 total) + owned_count files + data_start (length files) ≡ total
free_and_owned total files are =
    let start : ℕ = data_start (length files) in
    let few : start ≤ total = omega (arith, are.enough_blocks, are.valid.few_files) in
    let lists : List (List ℕ) = block_lists files in
    let free : ℕ → ℕ = λ x. one_if (is_free total files x) in
    let n : ℕ = total - start in
    let skipped : row_sum free 0 total ≡ row_sum free start n =
    skip_zeros free start total n 0 start (omega (arith, few)) (omega arith) (λ x low high. metadata_not_free total (length files) lists x high) in
    let both : row_sum (λ x. free x + times_listed lists x) start n ≡ row_sum (λ (x : ℕ). 1) start n =
    sum_by-same (λ x. free x + times_listed lists x) (λ (x : ℕ). 1) n start
    (λ x low high. free_or_owned total (length files) lists x low (omega (arith, high, few)) (are.valid.owned_once x)) in
    let owned : row_sum (times_listed lists) start n ≡ sum_by length lists = all_listed lists n start
    (All-map (All (λ b. (start ≤ b) × (b < start + n))) blocks_of_slot files
    (λ i d lt. subst (λ (slot : Option Inode). All (λ b. (start ≤ b) × (b < start + n)) (blocks_of_slot slot)) (get_or_default files i None d lt)
    (slot_within total files are n i (omega (arith, few)) (inode_at files i) refl))) in
    let each : row_sum (λ x. free x + times_listed lists x) start n ≡ row_sum free start n + row_sum (times_listed lists) start n =
    sum_by-plus free (times_listed lists) (range_with_len start n) in
    omega (arith, few, skipped, both, sum_by-const 1 n start (omega arith), each, owned, lengths_of_lists files)

-- the blocks of some first files are no more than all blocks
pub owned_within : (total : ℕ) (files : List (Option Inode)) → AreFiles total files → (k : ℕ) → owned_count (take k files) ≤ total
owned_within total files are k =
    omega (arith, sum_by-take-le (λ slot. length (blocks_of_slot slot)) files k, free_and_owned total files are)
