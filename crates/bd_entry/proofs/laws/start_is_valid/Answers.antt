use Rattle.bd_entry.proofs.StoreLaws.{start_is_valid}
use Rattle.bd_entry.proofs.laws.start_is_valid.Goals as goal

pub returns : goal.returns
returns c = start_is_valid
