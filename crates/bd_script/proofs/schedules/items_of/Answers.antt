use Rattle.std.proofs.Common.{◌≡◌, ◌≤◌, ℕ, List, ◌++◌, ◌∷◌, [], get_or, take, map, sym, ap, ◌∙◌, rules}
use Rattle.std.proofs.lemmas.Grind.{common_steps}
use Rattle.std.proofs.lemmas.List.{map_more}
use Rattle.std.proofs.lemmas.List.Elements.{All-more}
use Rattle.bd_base.specs.declared.script.Item.{Item}
use Rattle.bd_script.specs.declared.schedules.Turns.{Turns}
use Rattle.bd_script.specs.Schedules.{item_of}
use Rattle.bd_script.proofs.schedules.items_of.Goals as goal

pub loop-turns-preserved : goal.loop-turns-preserved
loop-turns-preserved c =
    let i = c.loop-turns.turns-index in
    let kept = c.args.kept.now in
    let none : Turns = record { actor = 0; turns = 0 } in
    let item_made : ℕ → Item = λ a. record { actor = a; turns = (get_or kept i none).turns } in
    let actor : c.in-Some.actor ≡ (get_or kept i none).actor = search (rules, common_steps) in
    record {
      made = c.in_ok-push.ensures.ok
          ∙ ap (λ (l : List Item). l ++ item_made c.in-Some.actor ∷ []) c.loop-turns.invariant.made
          ∙ ap (λ (a : ℕ). map item_of (take i kept) ++ item_made a ∷ []) actor
          ∙ sym (map_more item_of kept i none c.loop-turns-test.true);
      there = All-more (λ (t : Turns). t.actor ≤ c.args.last) kept i none c.loop-turns-test.true c.loop-turns.invariant.there (search (rules, common_steps));
    }
