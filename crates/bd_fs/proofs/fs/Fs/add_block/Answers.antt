use Rattle.std.proofs.Common.{◌≡◌, ℕ, ◌+◌, List, Option, Some, ap, sym, ◌∙◌, subst, length, slice_index}
use Rattle.std.proofs.Common.{slice_set, ◌<◌, true, false, arith}
use Rattle.std.proofs.lemmas.List.{get_or_read}
use Rattle.std.specs.Str.{bytes_eq}
use Rattle.indexmap.specs.IndexMap.{get_by}
use Rattle.bd_base.specs.declared.volume.Inode.{Inode}
use Rattle.bd_base.specs.Allocation.{last_block}
use Rattle.bd_base.specs.Inodes.{blocks_of_slot, existing_file, inode_at}
use Rattle.bd_base.proofs.Counts.{one_if}
use Rattle.bd_extents.specs.FreeBlocks.{FreeBlocks}
use Rattle.bd_fs.specs.declared.fs.Fs.TheInside.{Inside}
use Rattle.bd_fs.specs.Kept.{IsKept}
use Rattle.bd_base.specs.Extents.{is_extent_start}
use Rattle.bd_fs.proofs.Growth.{CountedAt, CountedAt-set, CountedAt-same, IsKept-added, planned_below_total}
use Rattle.bd_base.proofs.FileLists.{inode_at-existing_file, inode_at-within, slot-is}
use Rattle.bd_fs.proofs.fs.Fs.add_block.Goals as goal
use Rattle.bd_fs.proofs.fs.Fs.add_block.Goals.{then-begins_extent, else-begins_extent}

pub remove-requires : goal.remove-requires
remove-requires c =
    let allowed = rw (← c.self.view_is) at c.requires.allowed in
    let planned = rw (← c.self.view_is) at c.requires.planned in
    let below = planned_below_total _ (existing_file c.self.inside.inodes.items c.args.file) c.args.size c.args.block c.self.invariant allowed planned in
    let P : Inside → Type 0 = λ (s : Inside). c.args.block < s.free.total in
    elim c.if-begins_extent.branch [
      | then-begins_extent w ↦ subst P (sym w.self-inside-is) below
      | else-begins_extent w ↦ subst P (sym w.self-inside-is) below
    ]

pub invariant_of-self-2 : goal.invariant_of-self-2
invariant_of-self-2 c =
    let exists = rw (← c.self.view_is) at c.requires.exists in
    let enough = rw (← c.self.view_is) at c.requires.enough_blocks in
    let allowed = rw (← c.self.view_is) at c.requires.allowed in
    let planned = rw (← c.self.view_is) at c.requires.planned in
    let files : List (Option Inode) = c.self.inside.inodes.items in
    let counts : List ℕ = c.self.inside.counts.items in
    let id : ℕ = c.args.file in
    let there : inode_at files id ≡ Some (existing_file files id) = inode_at-existing_file files id exists in
    let inside = inode_at-within files id exists in
    let slot = slot-is files id c.index_mut.result.now exists (rw c.get-index.ensures.value at c.index_mut.ensures.value) in
    let read = slot-is files id c.index.result.now exists (rw c.get-index.ensures.value at c.index.ensures) in
    let last_is : c.last_of-last.result ≡ last_block (existing_file files id).blocks =
    c.last_of-last.ensures ∙ ap (λ o. last_block (blocks_of_slot o)) (read ∙ there) in
    let room : id < length counts = rw c.self.invariant.all_counted inside in
    let starts : ℕ = one_if (is_extent_start c.last_of-last.result c.args.block) in
    let P : Inside → Type 0 = λ (s : Inside). IsKept (record {
      total = s.total;
      files = s.inodes.items;
      counts = s.counts.items;
      free = c.remove.new.self;
      id_by_name = λ name. get_by (λ key. bytes_eq name key.items) s.names;
    }) in
    elim c.if-begins_extent.branch [
      | then-begins_extent w ↦
          let free_is : c.if-begins_extent.self-inside.free ≡ c.self.inside.free = ap (λ (s : Inside). s.free) w.self-inside-is in
          let count : ℕ = w.index_mut-then-begins_extent.result.now in
          let count_is : count ≡ slice_index counts id =
          get_or_read counts id count room (rw c.get-index.ensures.value at w.index_mut-then-begins_extent.ensures.value) 0 in
          let value : count + 1 ≡ slice_index counts id + starts = omega (arith, count_is, ap one_if (sym w.if-begins_extent.ensures)) in
          let counted : CountedAt counts (slice_set counts id (count + 1)) id (slice_index counts id + starts) =
          subst (CountedAt counts (slice_set counts id (count + 1)) id) value (CountedAt-set counts id (count + 1) room) in
          subst P (sym w.self-inside-is)
          (rw (c.in_ok-push_block.ensures.ok, slot, c.get-index.ensures.value)
          (IsKept-added _ id (existing_file files id) c.args.block c.args.size _ c.last_of-last.result c.remove.new.self
          c.self.invariant there allowed planned enough last_is (rw free_is at c.remove.ensures) counted))
      | else-begins_extent w ↦
          let free_is : c.if-begins_extent.self-inside.free ≡ c.self.inside.free = ap (λ (s : Inside). s.free) w.self-inside-is in
          let value : slice_index counts id ≡ slice_index counts id + starts = omega (arith, ap one_if (sym w.if-begins_extent.ensures)) in
          let counted : CountedAt counts counts id (slice_index counts id + starts) = CountedAt-same counts id _ value in
          subst P (sym w.self-inside-is)
          (rw (c.in_ok-push_block.ensures.ok, slot, c.get-index.ensures.value)
          (IsKept-added _ id (existing_file files id) c.args.block c.args.size _ c.last_of-last.result c.remove.new.self
          c.self.invariant there allowed planned enough last_is (rw free_is at c.remove.ensures) counted))
    ]
