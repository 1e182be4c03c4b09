use Rattle.std.proofs.Common.{◌≡◌, None, replicate}
use Rattle.bd_kernel.proofs.tests.free_ids.Given as goal

-- as many as were asked for so far
abbrev pub invariant-loop-id : goal.invariant-loop-id
invariant-loop-id l = l.inodes ≡ replicate l._id None
