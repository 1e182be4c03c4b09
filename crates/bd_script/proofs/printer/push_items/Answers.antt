use Rattle.std.proofs.Common.{◌≡◌, ℕ, List, [], ◌∷◌, ◌++◌, map, take, sym, ap, ◌∙◌, rules}
use Rattle.std.proofs.lemmas.Grind.{common_steps}
use Rattle.bd_blocks.specs.declared.text.TheConstants.{SPACE}
use Rattle.bd_script.proofs.LineLists.{items-step, made-more}
use Rattle.bd_script.specs.Texts.{Written, later_items, written_text, written_item}
use Rattle.bd_script.proofs.printer.push_items.Goals as goal

pub loop-item-preserved : goal.loop-item-preserved
loop-item-preserved c =
    let old = c.push_item.new.text.items in
    let later = c.in-Some.later.now in
    let i = c.loop-item.item-index in
    let item = c.item-item.result in
    let space : c.push.new.self.items ≡ c.loop-item.text.items ++ SPACE ∷ [] = search (rules, common_steps) in
    let pushed : c.push_item-in-loop-item.new.text.items ≡ c.push.new.self.items ++ written_text (written_item item) = search (rules, common_steps) in
    pushed ∙ ap (λ (l : List ℕ). l ++ written_text (written_item item)) (space ∙ ap (λ (l : List ℕ). l ++ SPACE ∷ []) c.loop-item.invariant)
    ∙ items-step old (map written_item (take i later)) (written_item item)
    ∙ ap (λ (l : List Written). old ++ later_items l) (sym (made-more written_item later i item c.loop-item-test.true c.item-item.is))
