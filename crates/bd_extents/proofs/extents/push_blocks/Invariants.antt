use Rattle.std.proofs.Common.{◌≡◌, ◌-◌, ◌++◌}
use Rattle.std.specs.List.{range_with_len}
use Rattle.bd_extents.proofs.extents.push_blocks.Given as goal

-- the blocks below the number were appended
abbrev pub invariant-loop-number : goal.invariant-loop-number
invariant-loop-number l = l.blocks ≡ l.initial.blocks ++ range_with_len l.fn.extent.start (l.number - l.fn.extent.start)
