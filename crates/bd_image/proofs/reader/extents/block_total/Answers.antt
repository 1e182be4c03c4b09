use Rattle.std.proofs.Common.{arith}
use Rattle.bd_image.proofs.Blocks.{length_blocks_before-more}
use Rattle.bd_image.proofs.reader.extents.block_total.Goals as goal

pub loop-e-preserved : goal.loop-e-preserved
loop-e-preserved c =
    let more = length_blocks_before-more c.args.bytes.now c.args.j c.loop-e.e in
    grind arith
