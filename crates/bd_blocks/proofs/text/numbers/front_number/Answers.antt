use Rattle.bd_blocks.specs.Texts.{number_text}
use Rattle.bd_blocks.proofs.Spellings.{Every, no-first, number-field}
use Rattle.bd_blocks.proofs.text.numbers.front_number.Goals as goal

pub returns-in_err-read_number-clause-none : goal.returns-in_err-read_number-clause-none
returns-in_err-read_number-clause-none c =
    rw c.from_residual-in_err-read_number.ensures
    (λ n rest same. no-first number_text Every number-field c.args.text.now c.in_ok-field.field.now c.in_ok-field.rest.now
    c.in_ok-field.ensures.split c.in_ok-field.ensures.first (λ m _. c.in_err-read_number.ensures.none m) n rest tt same)
