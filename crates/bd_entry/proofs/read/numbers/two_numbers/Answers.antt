use Rattle.bd_blocks.proofs.Spellings.{after-first}
use Rattle.bd_blocks.specs.Texts.{number_text}
use Rattle.bd_entry.specs.Reading.{IsUpTo}
use Rattle.bd_entry.proofs.Fields.{upto-field}
use Rattle.bd_entry.proofs.read.numbers.two_numbers.Goals as goal

pub returns-in_err-one_number : goal.returns-in_err-one_number
returns-in_err-one_number c =
    let first = c.in_ok-m.ensures.some in
    rw c.from_residual-in_err-one_number.ensures
    (λ p fits same. c.in_err-one_number.ensures p.1 fits.1
    (after-first number_text (IsUpTo c.args.a) (upto-field c.args.a) c.in_ok-m.m p.0 c.args.text.now c.in_ok-m.rest.now (number_text p.1)
    first.0 fits.0 first.1 same))
