use Rattle.bd_report.proofs.LawsOfReplies.{pieces_come_in_any_order}
use Rattle.bd_report.proofs.laws.pieces_come_in_any_order.Goals as goal

pub returns : goal.returns
returns c = pieces_come_in_any_order
