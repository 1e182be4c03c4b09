use Rattle.bd_entry.proofs.EntryKinds.{attached-none}
use Rattle.bd_entry.proofs.read.kinds.read_attached.Goals as goal

pub returns-in_err-fd : goal.returns-in_err-fd
returns-in_err-fd c = rw c.from_residual.ensures (attached-none c.args.text.now c.in_err-fd.ensures)
