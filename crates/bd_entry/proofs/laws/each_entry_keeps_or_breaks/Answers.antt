use Rattle.bd_entry.proofs.RuleLaws.{keeps_or_breaks}
use Rattle.bd_entry.proofs.laws.each_entry_keeps_or_breaks.Goals as goal

pub returns : goal.returns
returns c = keeps_or_breaks
