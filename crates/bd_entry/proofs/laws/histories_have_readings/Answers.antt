use Rattle.bd_entry.proofs.RangesOfEntries.{histories_have_readings}
use Rattle.bd_entry.proofs.laws.histories_have_readings.Goals as goal

pub returns : goal.returns
returns c = histories_have_readings
