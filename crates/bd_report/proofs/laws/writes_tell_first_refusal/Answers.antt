use Rattle.bd_report.proofs.LawsOfReplies.{writes_tell_first_refusal}
use Rattle.bd_report.proofs.laws.writes_tell_first_refusal.Goals as goal

pub returns : goal.returns
returns c = writes_tell_first_refusal
