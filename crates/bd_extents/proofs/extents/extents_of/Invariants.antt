use Rattle.std.proofs.Common.{◌≡◌, ◌+◌, ◌≤◌, ◌<◌, ◌++◌, drop}
use Rattle.bd_base.specs.Extents.{extents_of}
use Rattle.bd_base.specs.declared.limits.TheConstants.{BLOCKS}
use Rattle.bd_extents.proofs.ExtentLists.{with_front_extent}
use Rattle.bd_extents.proofs.extents.extents_of.Given as goal

-- the extents so far, then the last one with the extents of the blocks that are left
abbrev pub invariant-loop-block : goal.invariant-loop-block
invariant-loop-block l =
    (l.last.start + l.last.length ≤ BLOCKS)
    × (l.extents ++ with_front_extent l.last (extents_of (drop l.block-index l.rest)) ≡ extents_of l.blocks)
