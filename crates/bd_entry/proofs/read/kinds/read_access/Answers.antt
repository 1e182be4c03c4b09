use Rattle.bd_entry.proofs.EntryKinds.{access-no_bytes, access-no_target}
use Rattle.bd_entry.proofs.read.kinds.read_access.Goals as goal

pub returns-in_default : goal.returns-in_default
returns-in_default c = access-no_target c.args.text.now c.in_default.ensures.none

pub returns-in_default-2 : goal.returns-in_default-2
returns-in_default-2 c =
    access-no_bytes c.in-Some.target c.args.text.now c.in-Some.rest.now c.in-Some.ensures.some (rw c.in_default-2.is at c.in_ok-bytes.ensures)
