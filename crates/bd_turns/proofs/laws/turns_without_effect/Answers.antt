use Rattle.bd_turns.proofs.Growing.{other_turns_change_nothing, scripts_stay}
use Rattle.bd_turns.proofs.laws.turns_without_effect.Goals as goal

pub returns-clause-nothing : goal.returns-clause-nothing
returns-clause-nothing c = other_turns_change_nothing

pub returns-clause-script : goal.returns-clause-script
returns-clause-script c = scripts_stay
