use Rattle.bd_entry.proofs.NextEntries.{next_entries_are_legal}
use Rattle.bd_entry.proofs.next_laws.next_entries_are_legal.Goals as goal

pub returns : goal.returns
returns c = next_entries_are_legal
