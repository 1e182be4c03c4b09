use Rattle.bd_entry.proofs.EntryKinds.{size-none}
use Rattle.bd_entry.proofs.read.kinds.read_size.Goals as goal

pub returns-in_err-fd : goal.returns-in_err-fd
returns-in_err-fd c = rw c.from_residual.ensures (size-none c.args.text.now c.in_err-fd.ensures)
