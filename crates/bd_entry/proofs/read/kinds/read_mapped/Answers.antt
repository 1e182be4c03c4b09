use Rattle.bd_entry.proofs.EntryKinds.{mapped-none}
use Rattle.bd_entry.proofs.read.kinds.read_mapped.Goals as goal

pub returns-in_err-fd : goal.returns-in_err-fd
returns-in_err-fd c = rw c.from_residual.ensures (mapped-none c.args.text.now c.in_err-fd.ensures)
