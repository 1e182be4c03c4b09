-- What a file system keeps, after one file changed.
use Rattle.std.proofs.Common.{◌≡◌, ℕ, ◌+◌, ◌<◌, ◌≤◌, true, false, ◌&&◌, nat_eq, List, [], ◌∷◌, ◌++◌}
use Rattle.std.proofs.Common.{length, slice_index, slice_set, Some, IsTrue, is_some}
use Rattle.std.proofs.Common.{Contains, arith, refl, sym, ap, ◌∙◌, inl, inr, subst}
use Rattle.std.specs.FinSet as set
use Rattle.std.proofs.lemmas.Bool.{cases_eq, eq-eqb, ne_eqb, and_right, and_from}
use Rattle.std.proofs.lemmas.List.{length-set}
use Rattle.std.proofs.lemmas.List.Elements.{All-contains, Contains-push}
use Rattle.bd_base.specs.declared.limits.TheConstants.{EXTENTS, FILE_SIZE}
use Rattle.bd_base.specs.declared.volume.Inode.{Inode}
use Rattle.bd_base.specs.Allocation.{is_data_block, last_block, times_listed}
use Rattle.bd_base.specs.Extents.{extents_of, is_extent_start}
use Rattle.bd_base.specs.Files.{blocks_for}
use Rattle.bd_base.specs.Inodes.{AreValidFiles, block_lists, blocks_of_slot, grown_file, inode_at, without_last}
use Rattle.bd_base.proofs.Counts.{one_if, one_if-same, one_if-other}
use Rattle.bd_base.proofs.ExtentCounts.{extent_count-push}
use Rattle.bd_base.proofs.FileLists.{id_of-set_named, inode_at-set_other, inode_at-set_same, inode_at-within}
use Rattle.bd_base.proofs.Lists.{last_block-split}
use Rattle.bd_base.proofs.ValidFiles.{AreValidFiles-dropped, AreValidFiles-grown, AreValidFiles-resized, IsFree-from}
use Rattle.bd_base.proofs.ValidFiles.{extents_without_last, times-dropped, times-grown, times-resized}
use Rattle.bd_extents.specs.FreeBlocks.{FreeBlocks}
use Rattle.bd_extents.proofs.Marks.{contains-insert_nat, contains-remove_nat}
use Rattle.bd_fs.specs.Kept.{IsKept, Parts}

-- what a change of one file, of its count of extents and of the free blocks must be
pub record IsChange (p : Parts) (id : ℕ) (changed : Inode) (new_counts : List ℕ) (new_free : FreeBlocks) : Type 0 where
  pub valid : AreValidFiles p.total (slice_set p.files id (Some changed))
  pub all_counted : length new_counts ≡ length p.counts
  pub counted : slice_index new_counts id ≡ length (extents_of changed.blocks)
  pub others_counted : (k : ℕ) → (k ≡ id → ⊥) → slice_index new_counts k ≡ slice_index p.counts k
  pub same_total : new_free.total ≡ p.free.total
  pub free_blocks : (b : ℕ) → set.contains new_free.free b
      ≡ (is_data_block p.total (length p.files) b && nat_eq
      (times_listed (block_lists (slice_set p.files id (Some changed))) b) 0)

pub IsKept-set : (p : Parts) (id : ℕ) (file changed : Inode) (new_counts : List ℕ) (new_free : FreeBlocks)
    → IsKept p → inode_at p.files id ≡ Some file → changed.name ≡ file.name
    → IsChange p id changed new_counts new_free
    → IsKept (record p { files = slice_set p.files id (Some changed); counts = new_counts; free = new_free })
IsKept-set p id file changed new_counts new_free kept there same_name change =
    let inside : id < length p.files = inode_at-within p.files id (ap is_some there) in
    record {
      valid = change.valid;
      all_counted = change.all_counted ∙ kept.all_counted ∙ sym (length-set p.files id (Some changed));
      counted = λ k. elim (cases_eq k id) [
        | inl same ↦ ap (slice_index new_counts) same ∙ change.counted
            ∙ sym (ap (λ j. length (extents_of
            (blocks_of_slot (inode_at (slice_set p.files id (Some changed)) j)))) same
            ∙ ap (λ o. length (extents_of (blocks_of_slot o)))
            (inode_at-set_same p.files id (Some changed) inside))
        | inr other ↦ change.others_counted k other ∙ kept.counted k
            ∙ sym (ap (λ o. length (extents_of (blocks_of_slot o)))
            (inode_at-set_other p.files id k (Some changed) other))
      ];
      same_total = change.same_total ∙ kept.same_total;
      free_blocks = λ b. change.free_blocks b
          ∙ ap (λ n. is_data_block p.total n b && nat_eq
          (times_listed (block_lists (slice_set p.files id (Some changed))) b) 0)
          (sym (length-set p.files id (Some changed)));
      named = λ name. kept.named name ∙ sym (id_of-set_named p.files id file changed there same_name name);
    }

-- ---- a new size

pub IsKept-resized : (p : Parts) (id : ℕ) (file : Inode) (size : ℕ) → IsKept p → inode_at p.files id ≡ Some file
    → length file.blocks ≡ blocks_for size
    → IsKept (record p { files = slice_set p.files id (Some (record file { size = size })) })
IsKept-resized p id file size kept there enough =
    let changed : Inode = record file { size = size } in
    IsKept-set p id file changed p.counts p.free kept there refl (record {
      valid = AreValidFiles-resized p.total p.files id file size kept.valid there enough;
      all_counted = refl;
      counted = kept.counted id ∙ ap (λ o. length (extents_of (blocks_of_slot o))) there;
      others_counted = λ k other. refl;
      same_total = refl;
      free_blocks = λ b. kept.free_blocks b
          ∙ ap (λ n. is_data_block p.total (length p.files) b && nat_eq n 0)
          (sym (times-resized p.files id file size b there));
    })

-- ---- one more block

pub IsKept-grown : (p : Parts) (id : ℕ) (file : Inode) (block size : ℕ) (new_counts : List ℕ) → IsKept p → inode_at p.files id ≡ Some file
    → set.contains p.free.free block ≡ true
    → length file.blocks + 1 ≡ blocks_for size
    → size ≤ FILE_SIZE
    → length (extents_of (file.blocks ++ block ∷ [])) ≤ EXTENTS
    → length new_counts ≡ length p.counts
    → slice_index new_counts id ≡ slice_index p.counts id + one_if (is_extent_start (last_block file.blocks) block)
    → ((k : ℕ) → (k ≡ id → ⊥) → slice_index new_counts k ≡ slice_index p.counts k)
    → IsKept (record p {
      files = slice_set p.files id (Some (grown_file file (Some block) size));
      counts =
          new_counts;
      free = record { total = p.free.total; free = set.remove p.free.free block };
    })
IsKept-grown p id file block size new_counts kept there is_free_now enough in_range few all_counted counted others_counted =
    IsKept-set p id file (grown_file file (Some block) size) new_counts
    (record { total = p.free.total; free = set.remove p.free.free block }) kept there refl (record {
      valid = AreValidFiles-grown p.total p.files id file block size kept.valid there
          (IsFree-from p.total p.files block (sym (kept.free_blocks block) ∙ is_free_now)) enough in_range few;
      all_counted = all_counted;
      counted = counted ∙ ap (λ n. n + one_if (is_extent_start (last_block file.blocks) block))
          (kept.counted id ∙ ap (λ o. length (extents_of (blocks_of_slot o))) there)
          ∙ sym (extent_count-push file.blocks block);
      others_counted = others_counted;
      same_total = refl;
      free_blocks = λ b. contains-remove_nat p.free.free block b ∙ elim (cases_eq b block) [
        | inl same ↦
            let owned : nat_eq (new_times b) 0 ≡ false = ne_eqb (new_times b) 0 (λ none. omega (arith, times b, one_if-same b block same)) in
            rw (eq-eqb b block same) (sym (and_right (is_data_block p.total (length p.files) b) (nat_eq (new_times b) 0) owned))
        | inr other ↦
            let as_before : times_listed (block_lists p.files) b ≡ new_times b = omega (arith, times b, one_if-other b block other) in
            rw (ne_eqb b block other) (kept.free_blocks b ∙ ap (λ n. is_data_block p.total (length p.files) b && nat_eq n 0) as_before)
      ];
    })
  where
    new_times : ℕ → ℕ
    new_times b = times_listed (block_lists (slice_set p.files id (Some (grown_file file (Some block) size)))) b

    times : (b : ℕ) → new_times b ≡ times_listed (block_lists p.files) b + one_if (nat_eq b block)
    times b = times-grown p.files id file block size b there

-- ---- one block less

pub IsKept-dropped : (p : Parts) (id : ℕ) (file : Inode) (block : ℕ) (new_counts : List ℕ) → IsKept p → inode_at p.files id ≡ Some file
    → last_block file.blocks ≡ Some block
    → length new_counts ≡ length p.counts
    → slice_index new_counts id + one_if (is_extent_start (last_block (without_last file).blocks) block) ≡ slice_index p.counts id
    → ((k : ℕ) → (k ≡ id → ⊥) → slice_index new_counts k ≡ slice_index p.counts k)
    → IsKept (record p {
      files = slice_set p.files id (Some (without_last file));
      counts = new_counts;
      free =
          record { total = p.free.total; free = set.insert p.free.free block };
    })
IsKept-dropped p id file block new_counts kept there last all_counted counted others_counted =
    IsKept-set p id file (without_last file) new_counts (record { total = p.free.total; free = set.insert p.free.free block }) kept there refl (record {
      valid = AreValidFiles-dropped p.files id file block there last p.total kept.valid;
      all_counted = all_counted;
      counted = omega (arith, counted, kept.counted id, was_counted, extents);
      others_counted = others_counted;
      same_total = refl;
      free_blocks = λ b. contains-insert_nat p.free.free block b ∙ elim (cases_eq b block) [
        | inl same ↦
            let none : new_times b ≡ 0 = omega (arith, times b, one_if-same b block same, kept.valid.owned_once b) in
            rw (eq-eqb b block same, same)
            (sym (and_from (is_data_block p.total (length p.files) block) (nat_eq (new_times block) 0)
            is_data (eq-eqb (new_times block) 0 (subst (λ k. new_times k ≡ 0) same none))))
        | inr other ↦
            let as_before : times_listed (block_lists p.files) b ≡ new_times b = omega (arith, times b, one_if-other b block other) in
            rw (ne_eqb b block other) (kept.free_blocks b ∙ ap (λ n. is_data_block p.total (length p.files) b && nat_eq n 0) as_before)
      ];
    })
  where
    new_times : ℕ → ℕ
    new_times b = times_listed (block_lists (slice_set p.files id (Some (without_last file)))) b

    extents : length (extents_of file.blocks)
        ≡ length (extents_of (without_last file).blocks) + one_if
        (is_extent_start (last_block (without_last file).blocks) block)
    extents = extents_without_last file block last

    was_counted : length (extents_of (blocks_of_slot (inode_at p.files id))) ≡ length (extents_of file.blocks)
    was_counted = ap (λ o. length (extents_of (blocks_of_slot o))) there

    is_data : IsTrue (is_data_block p.total (length p.files) block)
    is_data =
        All-contains (λ b. IsTrue (is_data_block p.total (length p.files) b)) file.blocks block (kept.valid.each id file there).in_data_area
        (subst (λ bs. Contains bs block) (sym (last_block-split file.blocks block last)) (Contains-push (without_last file).blocks block))

    times : (b : ℕ) → new_times b + one_if (nat_eq b block) ≡ times_listed (block_lists p.files) b
    times b = times-dropped p.files id file block there last b
