use Rattle.bd_fs.proofs.Loading.{DataBelow}
use Rattle.bd_fs.proofs.fs.load.data_blocks.Given as goal

-- the data blocks below the number are free
abbrev pub invariant-loop-number : goal.invariant-loop-number
invariant-loop-number l = DataBelow l.fn.total l.fn.capacity l.free l.number
