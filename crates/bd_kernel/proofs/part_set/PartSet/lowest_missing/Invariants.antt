use Rattle.std.proofs.Common.{◌≡◌, ℕ, ◌<◌, true}
use Rattle.bd_entry.specs.Store.{has_part}
use Rattle.bd_kernel.proofs.part_set.PartSet.lowest_missing.Given as goal

abbrev pub invariant-loop-number : goal.invariant-loop-number
invariant-loop-number l = (part : ℕ) → part < l.number → has_part part l.self ≡ true
