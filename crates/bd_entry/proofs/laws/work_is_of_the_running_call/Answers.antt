use Rattle.bd_entry.proofs.HistoryLaws.{work_is_of_running_call}
use Rattle.bd_entry.proofs.laws.work_is_of_the_running_call.Goals as goal

pub returns : goal.returns
returns c = work_is_of_running_call
