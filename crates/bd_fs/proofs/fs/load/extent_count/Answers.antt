use Rattle.std.proofs.Common.{◌≡◌, ◌∙◌, ◌+◌, ap, arith}
use Rattle.bd_base.specs.Extents.{is_extent_start}
use Rattle.bd_base.proofs.Counts.{one_if}
use Rattle.bd_fs.proofs.Loading.{extent_count-le, extent_count-more, last_block-more}
use Rattle.bd_fs.proofs.fs.load.extent_count.Goals as goal
use Rattle.bd_fs.proofs.fs.load.extent_count.Goals.{then-begins_extent, else-begins_extent}

pub overflow_add-count : goal.overflow_add-count
overflow_add-count c = omega (arith, extent_count-le c.args.blocks.now c.loop-block.block-index)

pub loop-block-preserved : goal.loop-block-preserved
loop-block-preserved c =
    let more = extent_count-more c.args.blocks.now c.loop-block.block-index c.block-item.result
    c.loop-block-test.true c.block-item.is c.loop-block.last c.loop-block.count c.loop-block.invariant.1
    c.loop-block.invariant.0 in
    let count : c.if-begins_extent.count ≡ c.loop-block.count + one_if (is_extent_start c.loop-block.last c.block-item.result) =
    elim c.if-begins_extent.branch [
      | then-begins_extent w ↦ omega (arith, w.count-is, ap one_if w.if-begins_extent.ensures)
      | else-begins_extent w ↦ omega (arith, w.count-is, ap one_if w.if-begins_extent.ensures)
    ] in
    (count ∙ more, last_block-more c.args.blocks.now c.loop-block.block-index c.block-item.result c.loop-block-test.true c.block-item.is)
