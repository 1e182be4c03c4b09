use Rattle.std.proofs.Common.{◌≡◌, None, replicate}
use Rattle.bd_base.specs.declared.limits.TheConstants.{DESCRIPTORS}
use Rattle.bd_kernel.proofs.table.DescriptorTable.new.Given as goal

abbrev pub invariant-loop-process : goal.invariant-loop-process
invariant-loop-process l = l.rows.items ≡ replicate l._process (replicate DESCRIPTORS None)
