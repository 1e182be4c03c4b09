use Rattle.std.proofs.Common.{◌≤◌, arith}
use Rattle.bd_base.specs.declared.limits.TheConstants.{PROCESSES}
use Rattle.bd_kernel.proofs.CountedRows.{none_counted}
use Rattle.bd_kernel.proofs.table.DescriptorTable.new.Goals as goal

pub invariant_of-result : goal.invariant_of-result
invariant_of-result c =
    let few : c.loop-process._process ≤ PROCESSES = omega (arith, c.requires) in
    none_counted c.loop-process._process c.loop-process.rows.items few c.loop-process.invariant
