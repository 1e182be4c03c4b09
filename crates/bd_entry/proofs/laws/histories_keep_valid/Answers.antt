use Rattle.bd_entry.proofs.HistoryLaws.{histories_keep_valid}
use Rattle.bd_entry.proofs.laws.histories_keep_valid.Goals as goal

pub returns : goal.returns
returns c = histories_keep_valid
