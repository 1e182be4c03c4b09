use Rattle.std.proofs.Common.{◌≡◌, All, length}
use Rattle.bd_machine.specs.Booted.{IsNew}
use Rattle.bd_machine.proofs.machine.calls.new_processes.Given as goal

-- so many new processes
abbrev pub invariant-loop-process : goal.invariant-loop-process
invariant-loop-process g l = (length l.processes.items ≡ l._process) × All IsNew l.processes.items
