use Rattle.bd_gen.proofs.MadeScript.{AreFirstCalls}
use Rattle.bd_gen.proofs.processes.next_process.Given as goal

abbrev pub invariant-loop-call : goal.invariant-loop-call
invariant-loop-call l = AreFirstCalls l.initial.draws.last l.process l.call l.draws.last l.calls
