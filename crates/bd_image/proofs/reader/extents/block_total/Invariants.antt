use Rattle.std.proofs.Common.{◌≡◌, ◌*◌, ◌^◌, ◌≤◌, length}
use Rattle.bd_image.specs.Checks.{blocks_before}
use Rattle.bd_image.proofs.reader.extents.block_total.Given as goal

abbrev pub invariant-loop-e : goal.invariant-loop-e
invariant-loop-e l = (l.total ≡ length (blocks_before l.bytes l.j l.e)) × (l.total ≤ 2 ^ 32 * l.e)
