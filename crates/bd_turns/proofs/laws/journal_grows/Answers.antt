use Rattle.bd_turns.proofs.Growing.{runs_only_add, turns_only_add}
use Rattle.bd_turns.proofs.laws.journal_grows.Goals as goal

pub returns-clause-turn : goal.returns-clause-turn
returns-clause-turn c = turns_only_add

pub returns-clause-run : goal.returns-clause-run
returns-clause-run c = runs_only_add
