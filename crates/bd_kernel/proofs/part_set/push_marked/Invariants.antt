use Rattle.std.proofs.Common.{◌≡◌, ℕ, ◌+◌, ◌≤◌, ◌++◌, length, map, take}
use Rattle.bd_kernel.specs.PartMarks.{marked_from}
use Rattle.bd_kernel.proofs.part_set.push_marked.Given as goal

abbrev pub invariant-loop-number : goal.invariant-loop-number
invariant-loop-number l =
    (l.keys ≡ l.initial.keys ++ map (λ part. record { process = l.process; fd = l.fd; part = part }) (marked_from 0 (take l.number l.marks)))
    × (length l.keys ≤ length l.initial.keys + l.number)
