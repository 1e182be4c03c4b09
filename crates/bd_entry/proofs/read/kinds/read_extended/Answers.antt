use Rattle.bd_entry.proofs.EntryKinds.{extended-no_block, extended-no_size}
use Rattle.bd_entry.proofs.read.kinds.read_extended.Goals as goal

pub returns-in_err-to : goal.returns-in_err-to
returns-in_err-to c =
    rw c.from_residual-in_err-to.ensures
    (extended-no_size c.in_ok-file.file c.args.text.now c.in_ok-file.rest.now c.in_ok-file.ensures.some c.in_err-to.ensures.none)

pub returns-in_err-read_block : goal.returns-in_err-read_block
returns-in_err-read_block c =
    rw c.from_residual-in_err-read_block.ensures
    (extended-no_block c.in_ok-file.file c.in_ok-to.to c.args.text.now c.in_ok-file.rest.now c.in_ok-to.rest.now c.in_ok-file.ensures.some
    c.in_ok-to.ensures.some c.in_err-read_block.ensures)
