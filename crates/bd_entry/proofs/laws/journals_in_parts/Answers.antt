use Rattle.bd_entry.proofs.JournalLaws.{in_order_in_parts, legal_in_parts}
use Rattle.bd_entry.proofs.laws.journals_in_parts.Goals as goal

pub returns-clause-legal : goal.returns-clause-legal
returns-clause-legal c = legal_in_parts

pub returns-clause-in_order : goal.returns-clause-in_order
returns-clause-in_order c = in_order_in_parts
