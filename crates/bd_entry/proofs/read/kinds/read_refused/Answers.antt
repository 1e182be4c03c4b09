use Rattle.bd_entry.proofs.EntryKinds.{refused-no_reason}
use Rattle.bd_entry.proofs.read.kinds.read_refused.Goals as goal

pub returns-in_err-read_reason : goal.returns-in_err-read_reason
returns-in_err-read_reason c =
    rw c.from_residual-in_err-read_reason.ensures
    (refused-no_reason c.in_ok-piece.piece c.args.text.now c.in_ok-piece.rest.now c.in_ok-piece.ensures.some c.in_err-read_reason.ensures)
