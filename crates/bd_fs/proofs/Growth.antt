-- Growth and release of a block, as the parts of a file system see them.
use Rattle.std.proofs.Common.{◌≡◌, ℕ, ◌+◌, ◌%◌, ◌<◌, ◌≤◌, true, false, nat_eq, nat_le, nat_lt, List}
use Rattle.std.proofs.Common.{[], ◌∷◌, ◌++◌, length, slice_index, slice_set, get_or, Option, None, Some}
use Rattle.std.proofs.Common.{IsSome, IsTrue, Contains, count_by, arith, refl, sym, ap, ◌∙◌, subst}
use Rattle.std.proofs.Common.{get_or-set_same, get_or-set_other}
use Rattle.std.specs.FinSet as set
use Rattle.std.proofs.lemmas.Bool.{cond-true, cond-false, eq-eqb}
use Rattle.std.proofs.lemmas.Bool.{le-leb, lt-leb, le-ltb, and_parts, and_right, ltb-true, ne_eqb}
use Rattle.std.proofs.lemmas.List.{length-set, get_or_read}
use Rattle.std.proofs.lemmas.List.Elements.{All-contains, Contains-push}
use Rattle.bd_base.specs.declared.limits.TheConstants.{BLOCK_SIZE, EXTENTS, FILE_SIZE}
use Rattle.bd_base.specs.declared.reason.Reason.TheVariants.{Extents}
use Rattle.bd_base.specs.declared.volume.Inode.{Inode}
use Rattle.bd_base.specs.Allocation.{allocated_block, is_data_block, last_block, times_listed}
use Rattle.bd_base.specs.Files.{data_start}
use Rattle.bd_base.specs.Extents.{extents_of, is_extent_start}
use Rattle.bd_base.specs.Files.{blocks_for}
use Rattle.bd_base.specs.Inodes.{block_lists, block_refusal, blocks_of_slot, existing_file, grown_file}
use Rattle.bd_base.specs.Inodes.{growth_block, growth_refusal, inode_at, is_free, without_last}
use Rattle.bd_base.proofs.Takes.{Grows, Grows-from}
use Rattle.bd_base.proofs.ValidFiles.{extents_without_last}
use Rattle.bd_extents.specs.FreeBlocks.{FreeBlocks, without_block}
use Rattle.bd_fs.specs.Kept.{IsKept, Parts}
use Rattle.bd_fs.proofs.Changes.{IsKept-grown, IsKept-dropped}
use Rattle.bd_base.proofs.Counts.{count_by-push, one_if, one_if-same}
use Rattle.bd_base.proofs.Growth.{allocated_block-free}
use Rattle.bd_base.proofs.Lists.{last_block-split}
use Rattle.bd_base.proofs.ExtentCounts.{extent_count-push}
use Rattle.bd_base.proofs.FileLists.{inode_at-existing_file, inode_at-within, times_listed-set}

-- ---- counts of extents, after one changed

pub record CountedAt (counts new_counts : List ℕ) (id value : ℕ) : Type 0 where
  pub all_counted : length new_counts ≡ length counts
  pub here : slice_index new_counts id ≡ value
  pub others : (k : ℕ) → (k ≡ id → ⊥) → slice_index new_counts k ≡ slice_index counts k

pub CountedAt-set : (counts : List ℕ) (id value : ℕ) → id < length counts → CountedAt counts (slice_set counts id value) id value
CountedAt-set counts id value inside = record {
  all_counted = length-set counts id value;
  here = get_or-set_same counts id value 0 inside;
  others = λ k other. get_or-set_other counts id k value 0 other;
}

pub CountedAt-same : (counts : List ℕ) (id value : ℕ) → slice_index counts id ≡ value → CountedAt counts counts id value
CountedAt-same counts id value is = record { all_counted = refl; here = is; others = λ k other. refl }

-- ---- what the free set and the files allocate

pub same_allocated : (p : Parts) (last : Option ℕ) → IsKept p
    → allocated_block (set.contains p.free.free) p.free.total last
    ≡ allocated_block (is_free p.total p.files) p.total last
same_allocated p last kept =
    (λ i. allocated_block (λ block. kept.free_blocks block i) (kept.same_total i) last)

-- ---- a growth by one block

-- the block of a growth is free
planned_free : (p : Parts) (file : Inode) (to block : ℕ) → growth_refusal p.total p.files file to ≡ None
    → growth_block p.total p.files file ≡ Some block → is_free p.total p.files block ≡ true
planned_free p file to block allowed planned =
    allocated_block-free (is_free p.total p.files) p.total (last_block file.blocks) block
    (Grows-from p.total p.files file to block allowed planned).takes

-- so it is below the total
pub planned_below_total : (p : Parts) (file : Inode) (to block : ℕ) → IsKept p → growth_refusal p.total p.files file to ≡ None
    → growth_block p.total p.files file ≡ Some block → block < p.free.total
planned_below_total p file to block kept allowed planned =
    let is_data : is_data_block p.total (length p.files) block ≡ true =
    (and_parts (is_data_block p.total (length p.files) block) (nat_eq (times_listed (block_lists p.files) block) 0)
    (planned_free p file to block allowed planned)).0 in
    rw kept.same_total (ltb-true block p.total
    (and_parts (nat_le (data_start (length p.files)) block) (nat_lt block p.total) is_data).1)

pub IsKept-added : (p : Parts) (id : ℕ) (file : Inode) (block size : ℕ) (new_counts : List ℕ) (last : Option ℕ)
    (new_free : FreeBlocks) → IsKept p → inode_at p.files id ≡ Some file
    → growth_refusal p.total p.files file size ≡ None → growth_block p.total p.files file ≡ Some block
    → length file.blocks + 1 ≡ blocks_for size
    → last ≡ last_block file.blocks
    → new_free ≡ without_block p.free block
    → CountedAt p.counts new_counts id (slice_index p.counts id + one_if (is_extent_start last block))
    → IsKept (record p {
      files = slice_set p.files id (Some (grown_file file (Some block) size));
      counts = new_counts;
      free = new_free;
    })
IsKept-added p id file block size new_counts last new_free kept there allowed planned enough is_last is_left counted =
    let grows : Grows p.total p.files file size block = Grows-from p.total p.files file size block allowed planned in
    let free_block : set.contains p.free.free block ≡ true =
    kept.free_blocks block ∙ planned_free p file size block allowed planned in
    rw is_left
    (IsKept-grown p id file block size new_counts kept there free_block enough grows.in_range grows.few counted.all_counted
    (counted.here ∙ ap (λ l. slice_index p.counts id + one_if (is_extent_start l block)) is_last) counted.others)

-- ---- why a growth is refused

pub growth_refusal-block : (total : ℕ) (files : List (Option Inode)) (file : Inode) (to : ℕ) (block : Option ℕ)
    → to ≤ FILE_SIZE → file.size % BLOCK_SIZE ≡ 0
    → allocated_block (is_free total files) total (last_block file.blocks) ≡ block
    → growth_refusal total files file to ≡ block_refusal file.blocks block
growth_refusal-block total files file to block fits full takes =
    cond-false _ _ _ (le-ltb FILE_SIZE to fits) ∙ cond-true _ _ _ (eq-eqb (file.size % BLOCK_SIZE) 0 full) ∙ ap (block_refusal file.blocks) takes

pub growth_block-block : (total : ℕ) (files : List (Option Inode)) (file : Inode) (block : Option ℕ)
    → file.size % BLOCK_SIZE ≡ 0 → allocated_block (is_free total files) total (last_block file.blocks) ≡ block
    → growth_block total files file ≡ block
growth_block-block total files file block full takes = cond-true _ _ _ (eq-eqb (file.size % BLOCK_SIZE) 0 full) ∙ takes

pub block_refusal-many : (blocks : List ℕ) (block : ℕ) → length (extents_of blocks) ≡ EXTENTS
    → is_extent_start (last_block blocks) block ≡ true → block_refusal blocks (Some block) ≡ Some Extents
block_refusal-many blocks block full starts =
    let count : length (extents_of (blocks ++ block ∷ []))
    ≡ length (extents_of blocks) + one_if (is_extent_start (last_block blocks) block) =
    extent_count-push blocks block in
    let more : one_if (is_extent_start (last_block blocks) block) ≡ 1 = ap one_if starts in
    cond-false _ _ _ (lt-leb (length (extents_of (blocks ++ block ∷ []))) EXTENTS (omega arith))

pub block_refusal-few : (blocks : List ℕ) (block : ℕ)
    → length (extents_of blocks) + one_if (is_extent_start (last_block blocks) block) ≤ EXTENTS
    → block_refusal blocks (Some block) ≡ None
block_refusal-few blocks block few =
    let count : length (extents_of (blocks ++ block ∷ []))
    ≡ length (extents_of blocks) + one_if (is_extent_start (last_block blocks) block) =
    extent_count-push blocks block in
    cond-true _ _ _ (le-leb (length (extents_of (blocks ++ block ∷ []))) EXTENTS (omega arith))

-- ---- from what the calls of a growth read

module _ (p : Parts) (kept : IsKept p) (id : ℕ) (exists : IsSome (inode_at p.files id)) (slot : Option Inode)
    (read : slot ≡ inode_at p.files id) (last : Option ℕ) (last_is : last ≡ last_block (blocks_of_slot slot))
  where
    -- the last block of the file
    pub last_at : last ≡ last_block (existing_file p.files id).blocks
    last_at = last_is ∙ ap (λ o. last_block (blocks_of_slot o)) (read ∙ inode_at-existing_file p.files id exists)

    -- what would be taken
    pub takes_at : (result : Option ℕ) → result ≡ allocated_block (set.contains p.free.free) p.free.total last
        → allocated_block (is_free p.total p.files) p.total (last_block (existing_file p.files id).blocks)
        ≡ result
    takes_at result peeked = sym (peeked ∙ same_allocated p last kept ∙ ap (allocated_block (is_free p.total p.files) p.total) last_at)

    -- the count of extents
    pub count_at : (count : ℕ) → count ≡ get_or p.counts id count → count ≡ length (extents_of (existing_file p.files id).blocks)
    count_at count counted =
        get_or_read p.counts id count (rw kept.all_counted (inode_at-within p.files id exists)) counted 0
        ∙ kept.counted id ∙ ap (λ o. length (extents_of (blocks_of_slot o))) (inode_at-existing_file p.files id exists)

    pub few_at : length (extents_of (existing_file p.files id).blocks) ≤ EXTENTS
    few_at = (kept.valid.each id (existing_file p.files id) (inode_at-existing_file p.files id exists)).few_extents

-- ---- a release of the last block

module _ (p : Parts) (kept : IsKept p) (id : ℕ) (exists : IsSome (inode_at p.files id)) (slot : Option Inode)
    (read : slot ≡ inode_at p.files id) (block : ℕ) (last_is : last_block (blocks_of_slot slot) ≡ Some block)
  where
    last_owned : last_block (existing_file p.files id).blocks ≡ Some block
    last_owned = sym (ap (λ o. last_block (blocks_of_slot o)) (read ∙ inode_at-existing_file p.files id exists)) ∙ last_is

    owned : Contains (existing_file p.files id).blocks block
    owned =
        subst (λ bs. Contains bs block) (sym (last_block-split (existing_file p.files id).blocks block last_owned))
        (Contains-push (without_last (existing_file p.files id)).blocks block)

    -- it is below the total
    pub owned_below_total : block < p.free.total
    owned_below_total =
        let is_data : IsTrue (is_data_block p.total (length p.files) block) =
        All-contains (λ b. IsTrue (is_data_block p.total (length p.files) b)) (existing_file p.files id).blocks
        block (kept.valid.each id (existing_file p.files id)
        (inode_at-existing_file p.files id exists)).in_data_area owned in
        rw kept.same_total (ltb-true block p.total (and_parts (nat_le (data_start (length p.files)) block) (nat_lt block p.total) is_data).1)

    -- and not free
    pub owned_not_free : set.contains p.free.free block ≡ false
    owned_not_free =
        kept.free_blocks block
        ∙ and_right (is_data_block p.total (length p.files) block)
        (nat_eq (times_listed (block_lists p.files) block) 0)
        (ne_eqb (times_listed (block_lists p.files) block) 0 some_times)
      where
        some_times : times_listed (block_lists p.files) block ≡ 0 → ⊥
        some_times none =
            let counts = times_listed-set p.files id (Some (without_last (existing_file p.files id))) block (inode_at-within p.files id exists) in
            let was : count_by (nat_eq block) (blocks_of_slot (inode_at p.files id))
            ≡ count_by (nat_eq block) (existing_file p.files id).blocks =
            ap (λ o. count_by (nat_eq block) (blocks_of_slot o)) (inode_at-existing_file p.files id exists) in
            let pushed : count_by (nat_eq block) (existing_file p.files id).blocks
            ≡ count_by (nat_eq block) (without_last (existing_file p.files id)).blocks + one_if
            (nat_eq block block) =
            ap (count_by (nat_eq block)) (last_block-split (existing_file p.files id).blocks block last_owned)
            ∙ count_by-push block (without_last (existing_file p.files id)).blocks block in
            omega (arith, counts, was, pushed, one_if-same block block refl, none)

    -- the count of extents is that of the blocks left, and one more where the block begins one
    pub count_without_last : slice_index p.counts id
        ≡ length (extents_of (without_last (existing_file p.files id)).blocks) + one_if
        (is_extent_start (last_block (without_last (existing_file p.files id)).blocks) block)
    count_without_last =
        kept.counted id ∙ ap (λ o. length (extents_of (blocks_of_slot o))) (inode_at-existing_file p.files id exists)
        ∙ extents_without_last (existing_file p.files id) block last_owned

    pub IsKept-released : (new_counts : List ℕ) (new_free : FreeBlocks) (last : Option ℕ) (value : ℕ)
        → last ≡ last_block (without_last (existing_file p.files id)).blocks
        → new_free ≡ record { total = p.free.total; free = set.insert p.free.free block }
        → CountedAt p.counts new_counts id value → value + one_if (is_extent_start last block)
        ≡ slice_index p.counts id → IsKept
        (record p {
          files = slice_set p.files id (Some (without_last (existing_file p.files id)));
          counts =
              new_counts;
          free = new_free;
        })
    IsKept-released new_counts new_free last value left is_left counted count =
        let fewer : slice_index new_counts id + one_if (is_extent_start last block) ≡ slice_index p.counts id =
        ap (λ n. n + one_if (is_extent_start last block)) counted.here ∙ count in
        rw is_left
        (IsKept-dropped p id (existing_file p.files id) block new_counts kept (inode_at-existing_file p.files id exists) last_owned counted.all_counted
        (ap (λ l. slice_index new_counts id + one_if (is_extent_start l block)) (sym left) ∙ fewer) counted.others)
