use Rattle.bd_blocks.proofs.Spellings.{Every, no-first}
use Rattle.bd_entry.specs.Texts.{word_text}
use Rattle.bd_entry.proofs.Fields.{word-field}
use Rattle.bd_entry.proofs.read.front_word.Goals as goal

pub returns-in_err-read_word-clause-none : goal.returns-in_err-read_word-clause-none
returns-in_err-read_word-clause-none c =
    rw c.from_residual-in_err-read_word.ensures
    (no-first word_text Every word-field c.args.text.now c.in_ok-field.field.now c.in_ok-field.rest.now
    c.in_ok-field.ensures.split c.in_ok-field.ensures.first c.in_err-read_word.ensures)
