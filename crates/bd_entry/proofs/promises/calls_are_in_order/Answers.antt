use Rattle.bd_entry.proofs.JournalOrder.{calls_are_in_order}
use Rattle.bd_entry.proofs.promises.calls_are_in_order.Goals as goal

pub returns : goal.returns
returns c = calls_are_in_order
