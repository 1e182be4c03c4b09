use Rattle.std.proofs.Common.{◌≡◌, None, replicate}
use Rattle.bd_kernel.proofs.descriptors.Descriptors.new.Given as goal

abbrev pub invariant-loop-process : goal.invariant-loop-process
invariant-loop-process l = l.held.items ≡ replicate l._process None
