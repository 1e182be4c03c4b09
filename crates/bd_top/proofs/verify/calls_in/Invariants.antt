use Rattle.std.proofs.Common.{◌≡◌, length, take}
use Rattle.std.specs.Prelude.{sum_by}
use Rattle.bd_base.specs.declared.script.Process.{Process}
use Rattle.bd_top.proofs.verify.calls_in.Given as goal

abbrev pub invariant-loop-process : goal.invariant-loop-process
invariant-loop-process l = l.calls ≡ sum_by (λ (p : Process). length p.calls) (take l.process-index l.script.processes)
