use Rattle.bd_report.proofs.LawsOfReplies.{reads_tell_first_pieces}
use Rattle.bd_report.proofs.laws.reads_tell_first_pieces.Goals as goal

pub returns : goal.returns
returns c = reads_tell_first_pieces
