use Rattle.std.proofs.Common.{◌≡◌, ℕ, ◌+◌, ◌-◌, ◌<◌, List, Option, Some, None, true, false, refl, ap, sym, ◌∙◌}
use Rattle.std.proofs.Common.{subst, length, slice_index, slice_set, unwrap_or, get_or-set_same, arith}
use Rattle.std.specs.Str.{bytes_eq}
use Rattle.std.proofs.lemmas.List.{get_or_read, length-set}
use Rattle.indexmap.specs.IndexMap.{get_by}
use Rattle.bd_base.specs.declared.volume.Inode.{Inode}
use Rattle.bd_base.specs.Allocation.{last_block}
use Rattle.bd_base.specs.Inodes.{blocks_of_slot, existing_file, no_file, without_last}
use Rattle.std.specs.FinSet as set
use Rattle.bd_fs.specs.declared.fs.Fs.TheInside.{Inside}
use Rattle.bd_fs.specs.Kept.{IsKept, Parts}
use Rattle.bd_base.specs.Extents.{is_extent_start}
use Rattle.bd_base.proofs.Counts.{one_if}
use Rattle.bd_fs.proofs.Growth.{CountedAt-set, CountedAt-same, IsKept-released, count_without_last, owned_below_total, owned_not_free}
use Rattle.bd_base.proofs.FileLists.{inode_at-within, slot-is}
use Rattle.bd_fs.proofs.fs.Fs.drop_last.Goals as goal
use Rattle.bd_fs.proofs.fs.Fs.drop_last.Goals.{then-begins_extent, else-begins_extent}

pub overflow_sub-index_mut : goal.overflow_sub-index_mut
overflow_sub-index_mut c =
    let exists = rw (← c.self.view_is) at c.requires.exists in
    let files : List (Option Inode) = c.self.inside.inodes.items in
    let counts : List ℕ = c.self.inside.counts.items in
    let id : ℕ = c.args.file in
    let block : ℕ = c.drop_block-block.result in
    let inside = inode_at-within files id exists in
    let read = slot-is files id c.index_mut.result.now exists (rw c.get-index.ensures.value at c.index_mut.ensures.value) in
    let dropped : c.drop_block-block.new.file ≡ Some (without_last (existing_file files id)) =
    c.drop_block-block.ensures.dropped ∙ ap (λ o. Some (without_last (unwrap_or o no_file))) read in
    let left_read : c.index.result.now ≡ Some (without_last (existing_file files id)) =
    get_or_read (slice_set files id c.drop_block-block.new.file) id c.index.result.now (rw length-set inside)
    (rw c.get-index.ensures.value at c.index.ensures) None
    ∙ get_or-set_same files id c.drop_block-block.new.file None inside ∙ dropped in
    let left_last : c.last_of-last.result ≡ last_block (without_last (existing_file files id)).blocks =
    c.last_of-last.ensures ∙ ap (λ o. last_block (blocks_of_slot o)) left_read in
    let room : id < length counts = rw c.self.invariant.all_counted inside in
    let count = count_without_last _ c.self.invariant id exists c.index_mut.result.now read block c.drop_block-block.ensures.block in
    let count_is : c.index_mut-then-begins_extent.result.now ≡ slice_index counts id =
    get_or_read counts id c.index_mut-then-begins_extent.result.now room
    (rw c.get-index.ensures.value at c.index_mut-then-begins_extent.ensures.value) 0 in
    let starts : is_extent_start (last_block (without_last (existing_file files id)).blocks) block ≡ true =
    rw left_last at (sym c.if-begins_extent.ensures) in
    omega (arith, count, count_is, ap one_if starts)

pub give_back-requires-clause-below_total : goal.give_back-requires-clause-below_total
give_back-requires-clause-below_total c =
    let exists = rw (← c.self.view_is) at c.requires.exists in
    let files : List (Option Inode) = c.self.inside.inodes.items in
    let counts : List ℕ = c.self.inside.counts.items in
    let id : ℕ = c.args.file in
    let block : ℕ = c.drop_block-block.result in
    let inside = inode_at-within files id exists in
    let read = slot-is files id c.index_mut.result.now exists (rw c.get-index.ensures.value at c.index_mut.ensures.value) in
    let P : Inside → Type 0 = λ (s : Inside). block < s.free.total in
    let below = owned_below_total _ c.self.invariant id exists c.index_mut.result.now read block c.drop_block-block.ensures.block in
    elim c.if-begins_extent.branch [
      | then-begins_extent w ↦ subst P (sym w.self-inside-is) below
      | else-begins_extent w ↦ subst P (sym w.self-inside-is) below
    ]

pub give_back-requires-clause-not_free : goal.give_back-requires-clause-not_free
give_back-requires-clause-not_free c =
    let exists = rw (← c.self.view_is) at c.requires.exists in
    let files : List (Option Inode) = c.self.inside.inodes.items in
    let counts : List ℕ = c.self.inside.counts.items in
    let id : ℕ = c.args.file in
    let block : ℕ = c.drop_block-block.result in
    let inside = inode_at-within files id exists in
    let read = slot-is files id c.index_mut.result.now exists (rw c.get-index.ensures.value at c.index_mut.ensures.value) in
    let P : Inside → Type 0 = λ (s : Inside). set.contains s.free.free block ≡ false in
    let not_free = owned_not_free _ c.self.invariant id exists c.index_mut.result.now read block c.drop_block-block.ensures.block in
    elim c.if-begins_extent.branch [
      | then-begins_extent w ↦ subst P (sym w.self-inside-is) not_free
      | else-begins_extent w ↦ subst P (sym w.self-inside-is) not_free
    ]

pub invariant_of-self : goal.invariant_of-self
invariant_of-self c =
    let exists = rw (← c.self.view_is) at c.requires.exists in
    let files : List (Option Inode) = c.self.inside.inodes.items in
    let counts : List ℕ = c.self.inside.counts.items in
    let id : ℕ = c.args.file in
    let block : ℕ = c.drop_block-block.result in
    let inside = inode_at-within files id exists in
    let read = slot-is files id c.index_mut.result.now exists (rw c.get-index.ensures.value at c.index_mut.ensures.value) in
    let dropped : c.drop_block-block.new.file ≡ Some (without_last (existing_file files id)) =
    c.drop_block-block.ensures.dropped ∙ ap (λ o. Some (without_last (unwrap_or o no_file))) read in
    let left_read : c.index.result.now ≡ Some (without_last (existing_file files id)) =
    get_or_read (slice_set files id c.drop_block-block.new.file) id c.index.result.now (rw length-set inside)
    (rw c.get-index.ensures.value at c.index.ensures) None
    ∙ get_or-set_same files id c.drop_block-block.new.file None inside ∙ dropped in
    let left_last : c.last_of-last.result ≡ last_block (without_last (existing_file files id)).blocks =
    c.last_of-last.ensures ∙ ap (λ o. last_block (blocks_of_slot o)) left_read in
    let room : id < length counts = rw c.self.invariant.all_counted inside in
    let count = count_without_last _ c.self.invariant id exists c.index_mut.result.now read block c.drop_block-block.ensures.block in
    let P : Inside → Type 0 = λ (s : Inside). IsKept (record {
      total = s.total;
      files = s.inodes.items;
      counts = s.counts.items;
      free = c.give_back.new.self;
      id_by_name = λ name. get_by (λ key. bytes_eq name key.items) s.names;
    }) in
    elim c.if-begins_extent.branch [
      | then-begins_extent w ↦
          let free_is : c.if-begins_extent.self-inside.free ≡ c.self.inside.free = ap (λ (s : Inside). s.free) w.self-inside-is in
          let was : ℕ = w.index_mut-then-begins_extent.result.now in
          let count_is : was ≡ slice_index counts id =
          get_or_read counts id was room
          (rw c.get-index.ensures.value at w.index_mut-then-begins_extent.ensures.value) 0 in
          let starts : is_extent_start c.last_of-last.result block ≡ true = sym w.if-begins_extent.ensures in
          let value : was - 1 + one_if (is_extent_start c.last_of-last.result block) ≡ slice_index counts id =
          omega (
            arith,
            count,
            count_is,
            ap one_if starts,
            ap (λ l. one_if (is_extent_start l block))
                left_last,
          ) in
          subst P (sym w.self-inside-is)
          (rw (dropped, c.get-index.ensures.value)
          (IsKept-released _ c.self.invariant id exists c.index_mut.result.now read block
          c.drop_block-block.ensures.block (slice_set counts id (was - 1)) c.give_back.new.self
          c.last_of-last.result (was - 1) left_last (rw free_is at c.give_back.ensures)
          (CountedAt-set counts id (was - 1) room) value))
      | else-begins_extent w ↦
          let free_is : c.if-begins_extent.self-inside.free ≡ c.self.inside.free = ap (λ (s : Inside). s.free) w.self-inside-is in
          let starts : is_extent_start c.last_of-last.result block ≡ false = sym w.if-begins_extent.ensures in
          let value : slice_index counts id + one_if (is_extent_start c.last_of-last.result block)
          ≡ slice_index counts id = omega (arith, ap one_if starts) in
          subst P (sym w.self-inside-is)
          (rw (dropped, c.get-index.ensures.value)
          (IsKept-released _ c.self.invariant id exists c.index_mut.result.now read block
          c.drop_block-block.ensures.block counts c.give_back.new.self c.last_of-last.result
          (slice_index counts id) left_last (rw free_is at c.give_back.ensures)
          (CountedAt-same counts id (slice_index counts id) refl) value))
    ]
