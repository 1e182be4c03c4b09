use Rattle.bd_fs.proofs.Loading.{FreeAfter}
use Rattle.bd_fs.proofs.fs.load.free_blocks_of.Given as goal

-- the blocks of the files so far are removed
abbrev pub invariant-loop-file : goal.invariant-loop-file
invariant-loop-file l = FreeAfter l.total l.files l.file-index l.free
