use Rattle.std.proofs.Common.{ℕ, ◌≤◌, ◌∙◌, length, arith, ap}
use Rattle.std.proofs.lemmas.List.Sums.{sum_by_more_le}
use Rattle.bd_base.specs.declared.script.Call.{Call}
use Rattle.bd_entry.specs.Calls.{pieces_of_call}
use Rattle.bd_top.proofs.VerifyCounts.{few_in_process}
use Rattle.bd_top.proofs.verify.pieces_of_process.Goals as goal

pub overflow_add-count : goal.overflow_add-count
overflow_add-count c =
    let count = λ (call : Call). length (pieces_of_call call) in
    let calls = c.args.process.now.calls in
    let here = c.call-item.result in
    let next = sum_by_more_le count calls c.loop-call.call-index here (rw c.as_slice-call-items.ensures at c.loop-call-test.true) in
    let item = ap length c.as_slice.ensures ∙ ap length c.pieces_of.ensures ∙ ap count (rw c.as_slice-call-items.ensures at c.call-item.is) in
    omega (arith, next, few_in_process c.args.process.now c.requires, c.loop-call.invariant, item)
