use Rattle.bd_entry.proofs.EntryKinds.{opened-no_fd, opened-no_way}
use Rattle.bd_entry.proofs.read.kinds.read_opened.Goals as goal

pub returns-in_err-fd : goal.returns-in_err-fd
returns-in_err-fd c =
    rw c.from_residual-in_err-fd.ensures
    (opened-no_fd c.in_ok-file.file c.args.text.now c.in_ok-file.rest.now c.in_ok-file.ensures.some c.in_err-fd.ensures.none)

pub returns-in_err-mode : goal.returns-in_err-mode
returns-in_err-mode c =
    rw c.from_residual-in_err-mode.ensures
    (opened-no_way c.in_ok-file.file c.in_ok-fd.fd c.args.text.now c.in_ok-file.rest.now c.in_ok-fd.rest.now c.in_ok-file.ensures.some
    c.in_ok-fd.ensures.some c.in_err-mode.ensures)
