use Rattle.bd_blocks.proofs.Spellings.{Every, direction-field, no-first}
use Rattle.bd_blocks.specs.Words.{direction_text}
use Rattle.bd_entry.proofs.read.fields.front_direction.Goals as goal

pub returns-in_err-read_direction-clause-none : goal.returns-in_err-read_direction-clause-none
returns-in_err-read_direction-clause-none c =
    rw c.from_residual-in_err-read_direction.ensures
    (no-first direction_text Every direction-field c.args.text.now c.in_ok-field.field.now c.in_ok-field.rest.now
    c.in_ok-field.ensures.split c.in_ok-field.ensures.first c.in_err-read_direction.ensures)
