use Rattle.bd_entry.proofs.JournalLaws.{one_store}
use Rattle.bd_entry.proofs.laws.one_end.Goals as goal

pub returns : goal.returns
returns c = one_store
