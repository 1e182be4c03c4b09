use Rattle.std.proofs.Common.{ℕ, ◌≤◌, length, arith, ap}
use Rattle.std.proofs.lemmas.List.Elements.{All-weaker}
use Rattle.std.proofs.lemmas.List.Sums.{sum_by-le, sum_by_more_le}
use Rattle.bd_base.specs.declared.limits.TheConstants.{CALLS}
use Rattle.bd_base.specs.declared.script.Process.{Process}
use Rattle.bd_base.specs.Scripts.{IsProcess}
use Rattle.bd_top.proofs.verify.calls_in.Goals as goal

pub overflow_add-calls : goal.overflow_add-calls
overflow_add-calls c =
    let count = λ (p : Process). length p.calls in
    let processes = c.args.script.now.processes in
    let here = c.process-item.result in
    let next = sum_by_more_le count processes c.loop-process.process-index here (rw c.as_slice-process-items.ensures at c.loop-process-test.true) in
    let few = All-weaker IsProcess (λ (p : Process). length p.calls ≤ CALLS) (λ p is. is.count) processes c.requires.processes in
    let all = sum_by-le count CALLS processes few in
    omega (arith, next, all, c.loop-process.invariant, c.requires.process_count, c.len.ensures, ap count (rw c.as_slice-process-items.ensures at c.process-item.is))
