use Rattle.std.proofs.Common.{◌≡◌, drop}
use Rattle.bd_entry.specs.Store.{first_holder, is_open_of}
use Rattle.bd_kernel.proofs.table.DescriptorTable.first_open.Given as goal

abbrev pub invariant-loop-process : goal.invariant-loop-process
invariant-loop-process l = first_holder (is_open_of l.file) 0 l.self ≡ first_holder (is_open_of l.file) l.process (drop l.process l.self)
