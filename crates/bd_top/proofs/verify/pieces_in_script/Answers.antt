use Rattle.std.proofs.Common.{ℕ, ◌*◌, ◌≤◌, ◌∙◌, arith, ap}
use Rattle.std.proofs.lemmas.List.Elements.{All-weaker}
use Rattle.std.proofs.lemmas.List.Sums.{sum_by-le, sum_by_more_le}
use Rattle.bd_base.specs.declared.limits.TheConstants.{CALLS}
use Rattle.bd_base.specs.declared.script.Process.{Process}
use Rattle.bd_base.specs.Scripts.{IsProcess}
use Rattle.bd_top.specs.Verify.{pieces_in}
use Rattle.bd_top.proofs.VerifyCounts.{few_in_process}
use Rattle.bd_top.proofs.verify.pieces_in_script.Goals as goal

pub overflow_add-count : goal.overflow_add-count
overflow_add-count c =
    let processes = c.args.script.now.processes in
    let here = c.process-item.result in
    let next = sum_by_more_le pieces_in processes c.loop-process.process-index here (rw c.as_slice-process-items.ensures at c.loop-process-test.true) in
    let few = All-weaker IsProcess (λ (p : Process). pieces_in p ≤ CALLS * 5) few_in_process processes c.requires.processes in
    let all = sum_by-le pieces_in (CALLS * 5) processes few in
    let item = c.pieces_of_process-count.ensures ∙ ap pieces_in (rw c.as_slice-process-items.ensures at c.process-item.is) in
    omega (arith, next, all, c.loop-process.invariant, c.requires.process_count, item)
