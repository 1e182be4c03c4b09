-- The files that are made: which they are, and that no block is one of two.
use Rattle.std.proofs.Common.{◌≡◌, ℕ, zero, suc, ◌+◌, ◌*◌, ◌<◌, ◌≤◌, Bool, true, false, cond, nat_eq, nat_lt, count_by, List, [], ◌∷◌, ◌++◌, length, map, get_or, Option, None, Some, refl, ap, sym, ◌∙◌, subst, inl, inr, arith, append-nil, zero-add, add-one}
use Rattle.std.specs.List.{range_with_len, sum_by}
use Rattle.std.proofs.lemmas.Bool.{cases_Bool, cases_eq, cond-false, cond-true}
use Rattle.std.proofs.lemmas.Bool.Decides.{nat_tests}
use Rattle.std.proofs.lemmas.List.{get_or_past, map_push}
use Rattle.std.proofs.lemmas.List.FromFn.{get_or-map-range_with_len, length-map-range_with_len, length-range_with_len, map-range_with_len_more}
use Rattle.std.proofs.lemmas.List.Sums.{sum_by-cons, sum_by_push}
use Rattle.std.proofs.lemmas.Option.{none-some, same_Some}
use Rattle.bd_base.specs.declared.volume.Extent.{Extent}
use Rattle.bd_base.specs.declared.volume.Inode.{Inode}
use Rattle.bd_base.specs.Allocation.{times_listed}
use Rattle.bd_base.specs.Extents.{blocks_of}
use Rattle.bd_base.specs.Inodes.{block_lists, blocks_of_slot, inode_at}
use Rattle.bd_base.proofs.Counts.{one_if, one_if-other, one_if-same}
use Rattle.bd_gen.specs.Volume.{file_extent, made_file, made_inodes, made_slot}

-- ---- which files there are

pub length-made_inodes : length made_inodes ≡ 16
unfolding made_inodes
length-made_inodes = length-map-range_with_len made_slot 0 16

slot_at : (id : ℕ) → id < 16 → inode_at made_inodes id ≡ made_slot id
unfolding made_inodes
slot_at id low = get_or-map-range_with_len made_slot 0 16 id id None low (zero-add id)

no_slot_past : (id : ℕ) → 16 ≤ id → inode_at made_inodes id ≡ None
no_slot_past id past = get_or_past made_inodes id None (omega (arith, length-made_inodes))

used-low : (id : ℕ) (file : Inode) (test : Bool) → cond test (Some (made_file id)) None ≡ Some file → (test ≡ true) × (file ≡ made_file id)
used-low id file true e = (refl, sym (same_Some (made_file id) file e))
used-low id file false e = absurd (none-some file e)

-- a file that is there
pub record IsMade (id : ℕ) (file : Inode) : Type 0 where
  pub low : id < 8
  pub is : file ≡ made_file id

made_of-slot : (id : ℕ) (file : Inode) → made_slot id ≡ Some file → IsMade id file
unfolding made_slot
made_of-slot id file e =
    let parts = used-low id file (nat_lt id 8) e in
    let test : nat_lt id 8 ≡ true = parts.0 in
    record { low = grind (arith, nat_tests); is = parts.1 }

pub file_made : (id : ℕ) (file : Inode) → inode_at made_inodes id ≡ Some file → IsMade id file
file_made id file at =
    elim (cases_Bool (nat_lt id 16)) [
      | inl within ↦
          let low : id < 16 = grind (arith, nat_tests) in
          made_of-slot id file (sym (slot_at id low) ∙ at)
      | inr past ↦
          let high : 16 ≤ id = grind (arith, nat_tests) in
          absurd (none-some file (sym (no_slot_past id high) ∙ at))
    ]

-- ---- its blocks

pub blocks-made_file : (id : ℕ) → (made_file id).blocks ≡ range_with_len (3 + 2000 * id) 2000
unfolding made_file file_extent
blocks-made_file id = append-nil (range_with_len (3 + 2000 * id) 2000)

-- ---- no block is one of two files

-- how often a block stands in blocks in a row
count-range_before : (b a n : ℕ) → b < a → count_by (nat_eq b) (range_with_len a n) ≡ 0
count-range_before b a zero low = refl
count-range_before b a (suc n) low =
    sum_by-cons (λ x. one_if (nat_eq b x)) a (range_with_len (a + 1) n)
    ∙ omega (arith, one_if-other b a (λ same. omega arith), count-range_before b (a + 1) n (omega arith))

count-range_past : (b a n : ℕ) → a + n ≤ b → count_by (nat_eq b) (range_with_len a n) ≡ 0
count-range_past b a zero high = refl
count-range_past b a (suc n) high =
    sum_by-cons (λ x. one_if (nat_eq b x)) a (range_with_len (a + 1) n)
    ∙ omega (arith, one_if-other b a (λ same. omega arith), count-range_past b (a + 1) n (omega arith))

count-range : (b a n : ℕ) → count_by (nat_eq b) (range_with_len a n) ≤ 1
count-range b a zero = omega arith
count-range b a (suc n) =
    let split : count_by (nat_eq b) (range_with_len a (suc n)) ≡ one_if (nat_eq b a) + count_by (nat_eq b) (range_with_len (a + 1) n) =
    sum_by-cons (λ x. one_if (nat_eq b x)) a (range_with_len (a + 1) n) in
    elim (cases_eq b a) [
      | inl same ↦ omega (arith, split, one_if-same b a same, count-range_before b (a + 1) n (omega arith))
      | inr other ↦ omega (arith, split, one_if-other b a other, count-range b (a + 1) n)
    ]

-- how often a block stands in the file of this record
times_in : ℕ → ℕ → ℕ
times_in block id = count_by (nat_eq block) (blocks_of_slot (made_slot id))

record StandsOnce (block id : ℕ) : Type 0 where
  once : times_in block id ≤ 1
  before : block < 3 + 2000 * id → times_in block id ≡ 0
  past : 3 + 2000 * (id + 1) ≤ block → times_in block id ≡ 0

row-once : (block start size times : ℕ) → times ≡ count_by (nat_eq block) (range_with_len start size)
    → (times ≤ 1) × (block < start → times ≡ 0) × (start + size ≤ block → times ≡ 0)
row-once block start size times is = (
  omega (arith, is, count-range block start size),
  (λ low. is ∙ count-range_before block start size low),
  (λ high. is ∙ count-range_past block start size high),
)

next-start : (id block : ℕ) → 3 + 2000 * (id + 1) ≤ block → 3 + 2000 * id + 2000 ≤ block
next-start id block high = omega arith

slot-once : (block id : ℕ) (test : Bool) (times : ℕ) → times ≡ count_by (nat_eq block) (blocks_of_slot (cond test (Some (made_file id)) None))
    → (times ≤ 1) × (block < 3 + 2000 * id → times ≡ 0) × (3 + 2000 * (id + 1) ≤ block → times ≡ 0)
slot-once block id false times is = (omega (arith, is), (λ low. is), (λ high. is))
slot-once block id true times is =
    let row = row-once block (3 + 2000 * id) 2000 times (is ∙ ap (count_by (nat_eq block)) (blocks-made_file id)) in
    (row.0, row.1, (λ high. row.2 (next-start id block high)))

stands_once : (block id : ℕ) → StandsOnce block id
unfolding times_in made_slot
stands_once block id =
    let facts = slot-once block id (nat_lt id 8) (times_in block id) refl in
    record { once = facts.0; before = facts.1; past = facts.2 }

-- how often a block stands in the files of the first records
times_to : ℕ → ℕ → ℕ
times_to block n = times_listed (block_lists (map made_slot (range_with_len 0 n))) block

times_to-more : (block n : ℕ) → times_to block (n + 1) ≡ times_to block n + times_in block n
unfolding times_to times_in
times_to-more block n =
    ap (λ (files : List (Option Inode)). times_listed (block_lists files) block) (map-range_with_len_more made_slot 0 n n (zero-add n))
    ∙ ap (λ (lists : List (List ℕ)). times_listed lists block) (map_push blocks_of_slot (map made_slot (range_with_len 0 n)) (made_slot n))
    ∙ sum_by_push (λ blocks. count_by (nat_eq block) blocks) (block_lists (map made_slot (range_with_len 0 n))) (blocks_of_slot (made_slot n))

record StandsOnceTo (block n : ℕ) : Type 0 where
  once : times_to block n ≤ 1
  past : 3 + 2000 * n ≤ block → times_to block n ≡ 0

stands_once_to : (block n : ℕ) → StandsOnceTo block n
unfolding times_to
stands_once_to block zero = record { once = omega arith; past = λ high. refl }
stands_once_to block (suc n) =
    let earlier : StandsOnceTo block n = stands_once_to block n in
    let here : StandsOnce block n = stands_once block n in
    let more : times_to block (suc n) ≡ times_to block n + times_in block n = ap (times_to block) (sym (add-one n)) ∙ times_to-more block n in
    elim (cases_Bool (nat_lt block (3 + 2000 * n))) [
      | inl low ↦
          let below : block < 3 + 2000 * n = grind (arith, nat_tests) in
          record { once = omega (arith, more, earlier.once, here.before below); past = λ high. absurd (omega arith) }
      | inr high ↦
          let above : 3 + 2000 * n ≤ block = grind (arith, nat_tests) in
          record {
            once = omega (arith, more, earlier.past above, here.once);
            past = λ beyond. omega (arith, more, earlier.past above, here.past (omega arith));
          }
    ]

pub owned_once : (block : ℕ) → times_listed (block_lists made_inodes) block ≤ 1
unfolding made_inodes times_to
owned_once block = (stands_once_to block 16).once
