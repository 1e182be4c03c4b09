use Rattle.std.proofs.Common.{◌≡◌, ◌++◌, ◌∷◌, [], List, ℕ, rules, ap, ◌∙◌, drop}
use Rattle.std.proofs.lemmas.Grind.{common_steps}
use Rattle.bd_blocks.specs.Runs.{later_text, run_at_text, runs_of}
use Rattle.bd_blocks.proofs.RunLists.{first-written, later-written}
use Rattle.bd_blocks.proofs.print.push_runs.Goals as goal

pub loop-at-init : goal.loop-at-init
loop-at-init c =
    let bytes = c.args.bytes.now in
    let end = c.in_ok-at.at in
    let first = c.in_ok-at.ensures in
    record {
      within = first.run.within;
      text = ap (λ (l : List ℕ). l ++ later_text (runs_of (drop end bytes))) first.text
          ∙ first-written c.args.text.now.items bytes end first.run;
    }

pub loop-at-preserved : goal.loop-at-preserved
loop-at-preserved c =
    let bytes = c.args.bytes.now in
    let at = c.loop-at.at in
    let end = c.in_ok-at-2.at in
    let next = c.in_ok-at-2.ensures in
    let text = c.loop-at.text.items in
    let comma : c.push-in-loop-at.new.self.items ≡ text ++ 44 ∷ [] = search (rules, common_steps) in
    let written : c.push_run-in-loop-at.new.text.items ≡ (text ++ 44 ∷ []) ++ run_at_text bytes at end =
    next.text ∙ ap (λ (l : List ℕ). l ++ run_at_text bytes at end) comma in
    record {
      within = next.run.within;
      text = ap (λ (l : List ℕ). l ++ later_text (runs_of (drop end bytes))) written
          ∙ later-written _ text bytes at end next.run c.loop-at.invariant.text;
    }
