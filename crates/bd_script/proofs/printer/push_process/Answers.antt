use Rattle.std.proofs.Common.{◌≡◌, ℕ, List, [], ◌∷◌, ◌++◌, map, take, sym, ap, ◌∙◌, rules}
use Rattle.std.proofs.lemmas.Grind.{common_steps}
use Rattle.bd_blocks.specs.declared.text.TheConstants.{LF}
use Rattle.bd_script.proofs.LineLists.{lines-step, made-more}
use Rattle.bd_script.specs.Texts.{CallForm, Form, ProcForm, call_text, lines_text}
use Rattle.bd_script.proofs.printer.push_process.Goals as goal

pub loop-call-preserved : goal.loop-call-preserved
loop-call-preserved c =
    let old = c.args.text.now.items in
    let calls = c.args.process.now.calls in
    let i = c.loop-call.call-index in
    let call = c.call-item.result in
    let so_far : List Form = ProcForm c.args.process.now.uid ∷ map CallForm (take i calls) in
    let pushed : c.push_call.new.text.items ≡ c.loop-call.text.items ++ call_text call = search (rules, common_steps) in
    let ended : c.push-in-loop-call.new.self.items ≡ c.push_call.new.text.items ++ LF ∷ [] = search (rules, common_steps) in
    ended ∙ ap (λ (l : List ℕ). l ++ LF ∷ []) (pushed ∙ ap (λ (l : List ℕ). l ++ call_text call) c.loop-call.invariant)
    ∙ lines-step old so_far (CallForm call)
    ∙ ap (λ (l : List Form). old ++ lines_text (ProcForm c.args.process.now.uid ∷ l))
    (sym (made-more CallForm calls i call (search (rules, common_steps)) (search (rules, common_steps))))
