use Rattle.std.proofs.Common.{◌≡◌}
use Rattle.std.specs.Prelude.{slice_range}
use Rattle.bd_kernel.specs.Disks.{store_on}
use Rattle.bd_turns.specs.Turns.{cells_from}
use Rattle.bd_machine.proofs.cells.cells_of_part.Given as goal

abbrev pub invariant-loop-index : goal.invariant-loop-index
invariant-loop-index g l =
    l.cells.items ≡ cells_from (store_on l.fn.disk) l.fn.file l.first (slice_range l.blocks l.first l.index)
