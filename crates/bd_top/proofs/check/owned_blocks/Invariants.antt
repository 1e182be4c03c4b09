use Rattle.std.proofs.Common.{◌≡◌, take}
use Rattle.bd_top.specs.CheckLine.{owned_count}
use Rattle.bd_top.proofs.check.owned_blocks.Given as goal

abbrev pub invariant-loop-slot : goal.invariant-loop-slot
invariant-loop-slot l = l.owned ≡ owned_count (take l.slot-index l.inodes)
