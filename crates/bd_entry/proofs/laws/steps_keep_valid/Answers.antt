use Rattle.bd_entry.proofs.StoreLaws.{step_keeps_valid}
use Rattle.bd_entry.proofs.laws.steps_keep_valid.Goals as goal

pub returns : goal.returns
returns c = step_keeps_valid
