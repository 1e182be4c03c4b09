use Rattle.std.proofs.Common.{◌≡◌, ℕ, ◌+◌, ◌≤◌, ◌%◌, List, Option, Some, None, true, ap, sym, ◌∙◌, length, arith}
use Rattle.bd_base.specs.declared.limits.TheConstants.{BLOCK_SIZE, EXTENTS, FILE_SIZE}
use Rattle.bd_base.specs.declared.volume.Inode.{Inode}
use Rattle.bd_base.specs.Allocation.{last_block}
use Rattle.bd_base.specs.Extents.{extents_of, is_extent_start}
use Rattle.bd_base.specs.Inodes.{existing_file}
use Rattle.bd_base.proofs.Counts.{one_if, one_if-le}
use Rattle.bd_fs.proofs.Growth.{block_refusal-few, block_refusal-many, count_at, few_at, growth_block-block, growth_refusal-block, last_at, takes_at}
use Rattle.bd_base.proofs.FileLists.{slot-is}
use Rattle.bd_fs.proofs.fs.Fs.plan.Goals as goal
use Rattle.bd_fs.proofs.fs.Fs.plan.Goals.{else-index-eq-EXTENTS-via-then-index-eq-EXTENTS+else-begins_extent, else-index-eq-EXTENTS-via-else-index-eq-EXTENTS}

pub returns-in_default-clause-planned : goal.returns-in_default-clause-planned
returns-in_default-clause-planned c =
    let exists = rw (← c.self.view_is) at c.requires in
    let files : List (Option Inode) = c.self.inside.inodes.items in
    let id : ℕ = c.args.file in
    let total : ℕ = c.self.inside.total in
    let read = slot-is files id c.index.result.now exists (rw c.get-index.ensures.value at c.index.ensures) in
    let file_is = rw (← c.self.view_is) at c.existing_inode.ensures.file in
    let full : (existing_file files id).size % BLOCK_SIZE ≡ 0 = rw file_is at c.if-existing_inode-ne0.false in
    let fits : c.args.to ≤ FILE_SIZE = c.if-to-gt-FILE_SIZE.false in
    let takes = takes_at _ c.self.invariant id exists c.index.result.now read c.last_of-last.result c.last_of-last.ensures in
    rw (← c.self.view_is)
    (growth_refusal-block total files (existing_file files id) c.args.to None fits full (takes c.peek.result c.peek.ensures.block ∙ c.in_default.is))

pub returns-then-begins_extent-clause-planned : goal.returns-then-begins_extent-clause-planned
returns-then-begins_extent-clause-planned c =
    let exists = rw (← c.self.view_is) at c.requires in
    let files : List (Option Inode) = c.self.inside.inodes.items in
    let id : ℕ = c.args.file in
    let total : ℕ = c.self.inside.total in
    let read = slot-is files id c.index.result.now exists (rw c.get-index.ensures.value at c.index.ensures) in
    let file_is = rw (← c.self.view_is) at c.existing_inode.ensures.file in
    let full : (existing_file files id).size % BLOCK_SIZE ≡ 0 = rw file_is at c.if-existing_inode-ne0.false in
    let fits : c.args.to ≤ FILE_SIZE = c.if-to-gt-FILE_SIZE.false in
    let takes = takes_at _ c.self.invariant id exists c.index.result.now read c.last_of-last.result c.last_of-last.ensures in
    let last = last_at _ c.self.invariant id exists c.index.result.now read c.last_of-last.result c.last_of-last.ensures in
    let count = count_at _ c.self.invariant id exists c.index.result.now read c.last_of-last.result
    c.last_of-last.ensures c.index-2.result.now (rw c.get-index.ensures.value at c.index-2.ensures) in
    let starts : is_extent_start (last_block (existing_file files id).blocks) c.in-Some.block ≡ true = rw last at (sym c.if-begins_extent.ensures) in
    let refused = growth_refusal-block total files (existing_file files id) c.args.to
    (Some c.in-Some.block) fits full (takes c.peek.result c.peek.ensures.block ∙ c.in-Some.is) in
    rw (← c.self.view_is)
    (refused ∙ block_refusal-many (existing_file files id).blocks c.in-Some.block (sym count ∙ c.if-index-eq-EXTENTS.true) starts)

pub returns-clause-planned : goal.returns-clause-planned
returns-clause-planned c =
    let exists = rw (← c.self.view_is) at c.requires in
    let files : List (Option Inode) = c.self.inside.inodes.items in
    let id : ℕ = c.args.file in
    let total : ℕ = c.self.inside.total in
    let read = slot-is files id c.index.result.now exists (rw c.get-index.ensures.value at c.index.ensures) in
    let file_is = rw (← c.self.view_is) at c.existing_inode.ensures.file in
    let full : (existing_file files id).size % BLOCK_SIZE ≡ 0 = rw file_is at c.if-existing_inode-ne0.false in
    let fits : c.args.to ≤ FILE_SIZE = c.if-to-gt-FILE_SIZE.false in
    let takes = takes_at _ c.self.invariant id exists c.index.result.now read c.last_of-last.result c.last_of-last.ensures in
    let last = last_at _ c.self.invariant id exists c.index.result.now read c.last_of-last.result c.last_of-last.ensures in
    let count = count_at _ c.self.invariant id exists c.index.result.now read c.last_of-last.result
    c.last_of-last.ensures c.index-2.result.now (rw c.get-index.ensures.value at c.index-2.ensures) in
    let few = few_at _ c.self.invariant id exists c.index.result.now read c.last_of-last.result c.last_of-last.ensures in
    let takes_block = takes c.peek.result c.peek.ensures.block ∙ c.in-Some.is in
    let starts : ℕ = one_if (is_extent_start (last_block (existing_file files id).blocks) c.in-Some.block) in
    let still_few : length (extents_of (existing_file files id).blocks) + starts ≤ EXTENTS =
    elim c.else-index-eq-EXTENTS.branch [
      | else-index-eq-EXTENTS-via-then-index-eq-EXTENTS+else-begins_extent w ↦ omega (arith, few, ap one_if (rw last at w.if-begins_extent.ensures))
      | else-index-eq-EXTENTS-via-else-index-eq-EXTENTS w ↦ omega (
        arith,
        few,
        count,
        one_if-le
            (is_extent_start (last_block (existing_file files id).blocks) c.in-Some.block),
      )
    ] in
    let allowed = growth_refusal-block total files (existing_file files id) c.args.to (Some c.in-Some.block) fits full takes_block in
    rw (← c.self.view_is) (
      allowed ∙ block_refusal-few (existing_file files id).blocks c.in-Some.block still_few,
      sym
          (growth_block-block total files (existing_file files id) (Some c.in-Some.block) full takes_block),
    )
