use Rattle.bd_entry.proofs.EntryKinds.{missed-no_found}
use Rattle.bd_entry.proofs.read.kinds.read_missed.Goals as goal

pub returns-in_err-read_found : goal.returns-in_err-read_found
returns-in_err-read_found c =
    rw c.from_residual-in_err-read_found.ensures
    (missed-no_found c.in_ok-piece.piece c.args.text.now c.in_ok-piece.rest.now c.in_ok-piece.ensures.some c.in_err-read_found.ensures)
