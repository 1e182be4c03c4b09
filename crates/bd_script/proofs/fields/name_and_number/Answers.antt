use Rattle.std.proofs.Common.{ℕ, List, sym, ap, ◌∙◌}
use Rattle.bd_blocks.specs.Texts.{before, number_text}
use Rattle.bd_blocks.proofs.Spellings.{front_name-unique}
use Rattle.bd_script.proofs.fields.name_and_number.Goals as goal

pub returns-in_default-read_number-clause-refused : goal.returns-in_default-read_number-clause-refused
returns-in_default-read_number-clause-refused c = λ p is same.
    let first = c.in-Some.ensures.some in
    c.in_default-read_number.ensures.none p.1
    (front_name-unique c.in-Some.name.now p.0 c.in-Some.rest.now (number_text p.1) first.0 is (sym first.1 ∙ same)).1

pub returns-in_default-within-clause-refused : goal.returns-in_default-within-clause-refused
returns-in_default-within-clause-refused c =
    let first = c.in-Some.ensures.some in
    let second = c.in-Some-read_number.ensures.some in (
      (c.in-Some.name.now, second.0),
      first.0,
      first.1 ∙ ap (λ (rest : List ℕ). before c.in-Some.name.now rest) second.2,
      λ within. c.in_default-within.ensures.none second.0 second.1 within,
    )
