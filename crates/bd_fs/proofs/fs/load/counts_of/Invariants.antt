use Rattle.std.proofs.Common.{◌≡◌, ℕ, ◌<◌, length, slice_index}
use Rattle.bd_base.specs.Extents.{extents_of}
use Rattle.bd_base.specs.Inodes.{blocks_of_slot, inode_at}
use Rattle.bd_fs.proofs.fs.load.counts_of.Given as goal

-- the counts of the files so far
abbrev pub invariant-loop-file : goal.invariant-loop-file
invariant-loop-file l =
    (length l.counts.items ≡ l.file-index)
    × ((id : ℕ) → id < l.file-index
    → slice_index l.counts.items id ≡ length (extents_of (blocks_of_slot (inode_at l.files id))))
