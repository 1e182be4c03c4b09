-- How far the text was read. The rest grows shorter.
use Rattle.std.proofs.Common.{length}
use Rattle.bd_blocks.proofs.RunReading.{IsSoFar}
use Rattle.bd_blocks.proofs.read.read_into.Given as goal

abbrev pub invariant-loop-item : goal.invariant-loop-item
invariant-loop-item l = IsSoFar l.fn.text l.rest l.most l.progress l.bytes.items

abbrev pub decreases-loop-item : goal.decreases-loop-item
decreases-loop-item l = length l.rest
