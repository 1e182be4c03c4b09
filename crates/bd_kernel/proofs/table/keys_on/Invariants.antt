use Rattle.std.proofs.Common.{◌≡◌, ℕ, ◌*◌, ◌≤◌, length, take, nat_eq}
use Rattle.bd_base.specs.declared.limits.TheConstants.{DESCRIPTORS, PARTS}
use Rattle.bd_entry.specs.Actions.{keys_on}
use Rattle.bd_kernel.specs.Sights.{bare, no_files}
use Rattle.bd_kernel.proofs.table.keys_on.Given as goal

abbrev pub invariant-loop-number : goal.invariant-loop-number
invariant-loop-number l =
    (l.keys ≡ keys_on (bare no_files (take l.number l.rows)) l.file) × (length l.keys ≤ l.number * (DESCRIPTORS * PARTS))
