use Rattle.std.proofs.Common.{◌≡◌, take}
use Rattle.std.specs.Prelude.{sum_by}
use Rattle.bd_top.specs.Verify.{pieces_in}
use Rattle.bd_top.proofs.verify.pieces_in_script.Given as goal

abbrev pub invariant-loop-process : goal.invariant-loop-process
invariant-loop-process l = l.count ≡ sum_by pieces_in (take l.process-index l.script.processes)
