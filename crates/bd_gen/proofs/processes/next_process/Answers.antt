use Rattle.std.proofs.Common.{◌≡◌, ◌+◌, ◌++◌, ◌∷◌, [], ℕ, List, refl, sym, ap, ◌∙◌, subst, arith}
use Rattle.bd_base.specs.declared.script.Call.{Call}
use Rattle.bd_gen.specs.Draws.{number_after}
use Rattle.bd_gen.specs.Script.{drawn_before}
use Rattle.bd_gen.proofs.MadeScript.{AreFirstCalls, all_calls, no_calls, one_call_more}
use Rattle.bd_gen.proofs.processes.next_process.Goals as goal

pub loop-call-init : goal.loop-call-init
loop-call-init c =
    let x : ℕ = c.args.draws.now.last in
    subst (λ (l : List Call). AreFirstCalls x c.args.process 0 x l) (sym c.in_ok-calls.ensures) (no_calls x c.args.process)

pub loop-call-preserved : goal.loop-call-preserved
loop-call-preserved c =
    let x : ℕ = c.args.draws.now.last in
    let next : ℕ = c.next_call.new.draws.last in
    let made : Call = c.in_ok-next_call.field-0 in
    let more : AreFirstCalls x c.args.process (c.loop-call.call + 1) next (c.loop-call.calls ++ made ∷ []) =
    one_call_more x c.args.process c.loop-call.call c.loop-call.draws.last next c.loop-call.calls made c.loop-call.invariant
    (rw c.from.ensures at c.in_ok-next_call.ensures.call) (rw c.from.ensures at c.in_ok-next_call.ensures.draws) in
    subst (AreFirstCalls x c.args.process (c.loop-call.call + 1) next) (sym c.in_ok-push.ensures.ok) more

pub returns-clause-process : goal.returns-clause-process
returns-clause-process c =
    let end : c.loop-call.call ≡ 256 = omega arith in
    all_calls c.args.draws.now.last c.args.process c.loop-call.draws.last c.loop-call.calls
    (subst (λ (k : ℕ). AreFirstCalls c.args.draws.now.last c.args.process k c.loop-call.draws.last c.loop-call.calls) end c.loop-call.invariant)

pub returns-clause-draws : goal.returns-clause-draws
returns-clause-draws c =
    let end : c.loop-call.call ≡ 256 = omega arith in
    c.loop-call.invariant.drawn ∙ ap (λ (k : ℕ). number_after c.args.draws.now.last (drawn_before c.args.process k)) end
