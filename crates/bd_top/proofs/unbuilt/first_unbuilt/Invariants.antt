use Rattle.std.proofs.Common.{◌≡◌, ◌+◌, ◌*◌, ◌≤◌, drop}
use Rattle.bd_top.specs.Inputs.{unbuilt_from}
use Rattle.bd_top.proofs.unbuilt.first_unbuilt.Given as goal

abbrev pub invariant-loop-process : goal.invariant-loop-process
invariant-loop-process l =
    (unbuilt_from 2 l.script.processes ≡ unbuilt_from l.line (drop l.process-index l.script.processes))
    × (l.line ≤ 2 + 257 * l.process-index)
