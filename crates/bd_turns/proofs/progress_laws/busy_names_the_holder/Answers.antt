use Rattle.bd_turns.proofs.BusyAnswers.{busy_names_the_holder}
use Rattle.bd_turns.proofs.progress_laws.busy_names_the_holder.Goals as goal

pub returns : goal.returns
returns c = busy_names_the_holder
