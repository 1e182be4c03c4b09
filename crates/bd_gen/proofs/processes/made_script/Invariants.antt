use Rattle.bd_gen.proofs.MadeScript.{AreFirstProcesses}
use Rattle.bd_gen.proofs.processes.made_script.Given as goal

abbrev pub invariant-loop-process : goal.invariant-loop-process
invariant-loop-process l = AreFirstProcesses l.n l.process l.draws.last l.processes
