use Rattle.std.proofs.Common.{◌≡◌, length, take}
use Rattle.bd_base.specs.Allocation.{last_block}
use Rattle.bd_base.specs.Extents.{extents_of}
use Rattle.bd_fs.proofs.fs.load.extent_count.Given as goal

-- the extents of the blocks so far, and the last of these blocks
abbrev pub invariant-loop-block : goal.invariant-loop-block
invariant-loop-block l =
    (l.count ≡ length (extents_of (take l.block-index l.blocks))) × (l.last ≡ last_block (take l.block-index l.blocks))
