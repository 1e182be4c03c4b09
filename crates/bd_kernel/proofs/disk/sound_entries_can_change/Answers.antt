use Rattle.bd_kernel.proofs.DiskEntries.{can_change}
use Rattle.bd_kernel.proofs.disk.sound_entries_can_change.Goals as goal

pub returns : goal.returns
returns c = can_change
