use Rattle.bd_entry.specs.Texts.{fields_text, word_of}
use Rattle.bd_entry.proofs.FirstWords.{after_at, entry_of_fields, if_ok_map}
use Rattle.bd_entry.proofs.read.read_entry.Goals as goal

pub returns-in_default-front_word : goal.returns-in_default-front_word
returns-in_default-front_word c = λ e is same.
    c.in_default-front_word.ensures.none (word_of e) (fields_text e) tt
    (after_at c.in-Some.at c.args.line.now c.in-Some.rest.now c.in-Some.ensures.some.0 c.in-Some.ensures.some.1 e is same)

pub returns : goal.returns
returns c =
    if_ok_map _ (λ o reads. entry_of_fields c.in-Some.at c.in-Some-front_word.word c.args.line.now c.in-Some.rest.now c.in-Some-front_word.rest.now
    c.in-Some.ensures.some.0 c.in-Some.ensures.some.1
    c.in-Some-front_word.ensures.some.1 o reads) c.read_fields.ensures
