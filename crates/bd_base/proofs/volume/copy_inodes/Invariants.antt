use Rattle.std.proofs.Common.{◌≡◌, take}
use Rattle.bd_base.proofs.volume.copy_inodes.Given as goal

-- the files copied so far
abbrev pub invariant-loop-slot : goal.invariant-loop-slot
invariant-loop-slot l = l.copy ≡ take l.slot-index l.inodes
