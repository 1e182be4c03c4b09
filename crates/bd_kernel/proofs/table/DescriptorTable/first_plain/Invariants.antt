use Rattle.std.proofs.Common.{◌≡◌, drop}
use Rattle.bd_entry.specs.Store.{first_holder, is_plain_of}
use Rattle.bd_kernel.proofs.table.DescriptorTable.first_plain.Given as goal

abbrev pub invariant-loop-process : goal.invariant-loop-process
invariant-loop-process l = first_holder (is_plain_of l.file) 0 l.self ≡ first_holder (is_plain_of l.file) l.process (drop l.process l.self)
