use Rattle.std.proofs.Common.{◌≡◌, ◌≤◌, ◌<◌, ℕ, ◌+◌, length, position, None, Some, refl, sym, ap, ◌∙◌, arith, drop}
use Rattle.bd_base.specs.declared.limits.TheConstants.{CALLS}
use Rattle.bd_base.specs.declared.script.Call.{Call}
use Rattle.bd_base.specs.declared.script.Process.{Process}
use Rattle.bd_top.specs.Inputs.{is_unbuilt, unbuilt_from}
use Rattle.bd_top.proofs.BuiltScripts.{few_at, found_at, none_past, passed_at, within}
use Rattle.bd_top.proofs.unbuilt.first_unbuilt.Goals as goal

pub loop-process-init : goal.loop-process-init
loop-process-init c = (refl, omega arith)

pub overflow_add-result : goal.overflow_add-result
overflow_add-result c =
    omega (arith, c.loop-process.invariant.1, c.requires.process_count, rw c.as_slice-process-items.ensures at c.loop-process-test.true)

pub overflow_add-result-in-Some : goal.overflow_add-result-in-Some
overflow_add-result-in-Some c =
    let there = rw c.as_slice-process-items.ensures at c.loop-process-test.true in
    let is = rw c.as_slice-process-items.ensures at c.process-item.is in
    let few : length c.process-item.result.calls ≤ CALLS =
    few_at c.args.script.now.processes c.loop-process.line c.loop-process.process-index c.process-item.result there is c.requires.processes in
    let some : position is_unbuilt c.process-item.result.calls ≡ Some c.in-Some.call =
    ap (position is_unbuilt) (sym c.as_slice.ensures) ∙ sym c.unbuilt_call.ensures ∙ c.in-Some.is in
    let below : c.in-Some.call < length c.process-item.result.calls = within c.process-item.result.calls c.in-Some.call some in
    omega (arith, c.loop-process.invariant.1, c.requires.process_count, there, few, below)

pub returns-in-Some : goal.returns-in-Some
returns-in-Some c =
    let processes = c.args.script.now.processes in
    let there = rw c.as_slice-process-items.ensures at c.loop-process-test.true in
    let is = rw c.as_slice-process-items.ensures at c.process-item.is in
    let some : position is_unbuilt c.process-item.result.calls ≡ Some c.in-Some.call =
    ap (position is_unbuilt) (sym c.as_slice.ensures) ∙ sym c.unbuilt_call.ensures ∙ c.in-Some.is in
    sym (c.loop-process.invariant.0
    ∙ found_at processes c.loop-process.line c.loop-process.process-index c.process-item.result there is c.in-Some.call some)

pub overflow_add-line-in-loop-process : goal.overflow_add-line-in-loop-process
overflow_add-line-in-loop-process c =
    let there = rw c.as_slice-process-items.ensures at c.loop-process-test.true in
    let is = rw c.as_slice-process-items.ensures at c.process-item.is in
    let few : length c.process-item.result.calls ≤ CALLS =
    few_at c.args.script.now.processes c.loop-process.line c.loop-process.process-index c.process-item.result there is c.requires.processes in
    omega (arith, c.loop-process.invariant.1, c.requires.process_count, there, few, c.len.ensures)

pub loop-process-preserved : goal.loop-process-preserved
loop-process-preserved c =
    let processes = c.args.script.now.processes in
    let p = c.process-item.result in
    let line = c.loop-process.line in
    let index = c.loop-process.process-index in
    let there = rw c.as_slice-process-items.ensures at c.loop-process-test.true in
    let is = rw c.as_slice-process-items.ensures at c.process-item.is in
    let few : length p.calls ≤ CALLS = few_at processes line index p there is c.requires.processes in
    let none : position is_unbuilt p.calls ≡ None =
    ap (position is_unbuilt) (sym c.as_slice.ensures) ∙ sym c.unbuilt_call.ensures ∙ c.in_default.is in
    let next : line + 1 + length p.calls ≡ line + (1 + c.len.result) = omega (arith, c.len.ensures) in (
      c.loop-process.invariant.0 ∙ passed_at processes line index p there is none
          ∙ ap (λ (n : ℕ). unbuilt_from n (drop (index + 1) processes)) next,
      omega (arith, c.loop-process.invariant.1, few, c.len.ensures),
    )

pub returns : goal.returns
returns c =
    let past : length c.args.script.now.processes ≤ c.loop-process.process-index =
    omega (arith, rw c.as_slice-process-items.ensures at c.loop-process-test.false) in
    sym (c.loop-process.invariant.0 ∙ none_past c.args.script.now.processes c.loop-process.line c.loop-process.process-index past)
