use Rattle.bd_entry.proofs.EntryKinds.{released-none, three-none}
use Rattle.bd_entry.proofs.read.kinds.read_released.Goals as goal

pub returns-in_err-index : goal.returns-in_err-index
returns-in_err-index c =
    rw c.from_residual-in_err-index.ensures
    (released-none c.args.text.now
    (three-none _ _ _ c.in_ok-file.file c.args.text.now c.in_ok-file.rest.now c.in_ok-file.ensures.some c.in_err-index.ensures))
