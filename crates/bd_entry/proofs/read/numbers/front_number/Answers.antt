use Rattle.bd_blocks.proofs.Spellings.{no-first}
use Rattle.bd_blocks.specs.Texts.{number_text}
use Rattle.bd_entry.specs.Reading.{IsUpTo}
use Rattle.bd_entry.proofs.Fields.{upto-field}
use Rattle.bd_entry.proofs.read.numbers.front_number.Goals as goal

pub returns-in_err-one_number-clause-none : goal.returns-in_err-one_number-clause-none
returns-in_err-one_number-clause-none c =
    rw c.from_residual-in_err-one_number.ensures
    (no-first number_text (IsUpTo c.args.most) (upto-field c.args.most) c.args.text.now c.in_ok-field.field.now c.in_ok-field.rest.now
    c.in_ok-field.ensures.split c.in_ok-field.ensures.first c.in_err-one_number.ensures)
