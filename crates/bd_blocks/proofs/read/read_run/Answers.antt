use Rattle.std.proofs.Common.{◌≡◌, rules}
use Rattle.std.proofs.lemmas.Grind.{common_steps}
use Rattle.bd_blocks.specs.declared.text.numbers.Number.TheVariants.{Small}
use Rattle.bd_blocks.proofs.RunTexts.{no-zero_run}
use Rattle.bd_blocks.proofs.read.read_run.Goals as goal

pub returns-then-eq-clause-none : goal.returns-then-eq-clause-none
returns-then-eq-clause-none c =
    let zero : c.in_ok-count.count ≡ Small 0 = search (rules, common_steps) in
    no-zero_run c.args.text.now c.in_ok-count.count c.in_ok-count.ensures.some zero
