use Rattle.std.proofs.Common.{◌≡◌, ℕ, Bool, true, false, cond, refl, sym, ap, ◌∙◌}
use Rattle.std.proofs.lemmas.Result.{IfOk-weaker}
use Rattle.bd_base.specs.declared.script.Call.{Call}
use Rattle.bd_gen.specs.Calls.{drawn_call}
use Rattle.bd_gen.specs.Draws.{next_number}
use Rattle.bd_gen.specs.Script.{is_drawn}
use Rattle.bd_gen.proofs.MadeScript.{is_drawn-fixed, is_drawn-free}
use Rattle.bd_gen.proofs.processes.next_call.Goals as goal

pub returns-in-Some-clause-draws : goal.returns-in-Some-clause-draws
returns-in-Some-clause-draws c =
    let fixed : is_drawn c.args.process c.args.call ≡ false =
    is_drawn-fixed c.args.process c.args.call c.in-Some.fixed (sym c.in_ok-fixed.ensures ∙ c.in-Some.is) in
    rw fixed refl

pub returns-in-None-clause-draws : goal.returns-in-None-clause-draws
returns-in-None-clause-draws c =
    let last : ℕ = c.args.draws.now.last in
    let free : is_drawn c.args.process c.args.call ≡ true =
    is_drawn-free c.args.process c.args.call (sym c.in_ok-fixed.ensures ∙ c.in-None.is) in
    let moved : c.draw.new.self.last ≡ cond (is_drawn c.args.process c.args.call) (next_number last) last =
    c.draw.ensures.last ∙ c.draw.ensures.value ∙ sym (ap (λ (b : Bool). cond b (next_number last) last) free) in
    IfOk-weaker c.drawn_call.result (λ (call : Call). call ≡ drawn_call c.draw.result)
    (λ (call : Call). c.draw.new.self.last ≡ cond (is_drawn c.args.process c.args.call) (next_number last) last) (λ call is. moved) c.drawn_call.ensures
