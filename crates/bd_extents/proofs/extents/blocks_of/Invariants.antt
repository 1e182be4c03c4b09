use Rattle.std.proofs.Common.{◌≡◌, take}
use Rattle.bd_base.specs.Extents.{blocks_of}
use Rattle.bd_extents.proofs.extents.blocks_of.Given as goal

-- the blocks of the extents so far were appended
abbrev pub invariant-loop-extent : goal.invariant-loop-extent
invariant-loop-extent l = l.blocks ≡ blocks_of (take l.extent-index l.extents)
