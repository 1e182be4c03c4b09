use Rattle.bd_entry.proofs.BadLines.{bad_text}
use Rattle.bd_entry.proofs.text_laws.bad_is_no_journal.Goals as goal

pub returns : goal.returns
returns c = bad_text
