use Rattle.bd_report.proofs.LawsOfReplies.{other_calls_do_not_matter}
use Rattle.bd_report.proofs.laws.other_calls_do_not_matter.Goals as goal

pub returns : goal.returns
returns c = other_calls_do_not_matter
