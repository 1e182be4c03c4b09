use Rattle.bd_entry.proofs.NextReady.{running_calls_are_ready}
use Rattle.bd_entry.proofs.next_laws.running_calls_are_ready.Goals as goal

pub returns : goal.returns
returns c = running_calls_are_ready
