use Rattle.bd_blocks.proofs.Spellings.{Every, way-field, no-first}
use Rattle.bd_blocks.specs.Words.{way_text}
use Rattle.bd_entry.proofs.read.fields.front_way.Goals as goal

pub returns-in_err-read_way-clause-none : goal.returns-in_err-read_way-clause-none
returns-in_err-read_way-clause-none c =
    rw c.from_residual-in_err-read_way.ensures
    (no-first way_text Every way-field c.args.text.now c.in_ok-field.field.now c.in_ok-field.rest.now
    c.in_ok-field.ensures.split c.in_ok-field.ensures.first c.in_err-read_way.ensures)
