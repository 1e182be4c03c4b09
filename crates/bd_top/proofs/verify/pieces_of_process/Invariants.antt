use Rattle.std.proofs.Common.{◌≡◌, length, take}
use Rattle.std.specs.Prelude.{sum_by}
use Rattle.bd_base.specs.declared.script.Call.{Call}
use Rattle.bd_entry.specs.Calls.{pieces_of_call}
use Rattle.bd_top.proofs.verify.pieces_of_process.Given as goal

abbrev pub invariant-loop-call : goal.invariant-loop-call
invariant-loop-call l = l.count ≡ sum_by (λ (call : Call). length (pieces_of_call call)) (take l.call-index l.process.calls)
