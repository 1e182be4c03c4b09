use Rattle.std.proofs.Common.{◌≡◌, None, replicate}
use Rattle.bd_store.proofs.tests.empty_volume.Given as goal

abbrev pub invariant-loop-id : goal.invariant-loop-id
invariant-loop-id l = l.inodes ≡ replicate l._id None
