use Rattle.bd_entry.proofs.BadLines.{one_bad}
use Rattle.bd_entry.proofs.text_laws.one_bad_line.Goals as goal

pub returns : goal.returns
returns c = one_bad
