use Rattle.bd_entry.proofs.EntryKinds.{detached-none, three-none}
use Rattle.bd_entry.proofs.read.kinds.read_detached.Goals as goal

pub returns-in_err-fd : goal.returns-in_err-fd
returns-in_err-fd c =
    rw c.from_residual-in_err-fd.ensures
    (detached-none c.args.text.now
    (three-none _ _ _ c.in_ok-owner.owner c.args.text.now c.in_ok-owner.rest.now c.in_ok-owner.ensures.some c.in_err-fd.ensures))
