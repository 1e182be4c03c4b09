use Rattle.bd_store.specs.Kept.{AreIdle}
use Rattle.bd_store.proofs.store.idle_calls.Given as goal

abbrev pub invariant-loop-process : goal.invariant-loop-process
invariant-loop-process l = AreIdle l._process l.calls.items
