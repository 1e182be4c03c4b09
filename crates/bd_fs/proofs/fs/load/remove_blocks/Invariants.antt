use Rattle.std.proofs.Common.{◌≡◌, ℕ, ◌&&◌, take}
use Rattle.std.specs.FinSet as set
use Rattle.bd_fs.specs.Kept.{is_none_of}
use Rattle.bd_fs.proofs.fs.load.remove_blocks.Given as goal

-- the blocks so far are removed
abbrev pub invariant-loop-block : goal.invariant-loop-block
invariant-loop-block l =
    (l.free.total ≡ l.initial.free.total)
    × ((b : ℕ) → set.contains l.free.free b ≡ (set.contains l.initial.free.free b && is_none_of (take l.block-index l.blocks) b))
