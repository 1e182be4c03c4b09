use Rattle.std.proofs.Common.{◌≡◌, map, take}
use Rattle.bd_base.specs.declared.script.Process.{Process}
use Rattle.bd_store.proofs.check.uids_of.Given as goal

abbrev pub invariant-loop-process : goal.invariant-loop-process
invariant-loop-process l = l.uids ≡ map (λ (p : Process). p.uid) (take l.process-index l.processes)
