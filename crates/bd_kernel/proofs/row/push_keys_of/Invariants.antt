use Rattle.std.proofs.Common.{◌≡◌, ℕ, ◌+◌, ◌*◌, ◌≤◌, ◌++◌, length, take, nat_eq}
use Rattle.std.specs.List.{enumerate_from, flat_map}
use Rattle.bd_base.specs.declared.limits.TheConstants.{PARTS}
use Rattle.bd_entry.specs.Actions.{keys_of_slot}
use Rattle.bd_kernel.proofs.row.push_keys_of.Given as goal

abbrev pub invariant-loop-number : goal.invariant-loop-number
invariant-loop-number l =
    (l.keys ≡ l.initial.keys ++ flat_map (λ slot. keys_of_slot (λ d. nat_eq d.file l.file) l.process slot.0 slot.1) (enumerate_from 0 (take l.number l.slots)))
    × (length l.keys ≤ length l.initial.keys + l.number * PARTS)
