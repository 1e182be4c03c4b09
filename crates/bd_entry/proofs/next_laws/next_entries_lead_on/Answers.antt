use Rattle.bd_entry.proofs.NextEntries.{next_entries_lead_on}
use Rattle.bd_entry.proofs.next_laws.next_entries_lead_on.Goals as goal

pub returns : goal.returns
returns c = next_entries_lead_on
