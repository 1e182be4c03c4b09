use Rattle.std.proofs.Common.{ℕ, List, sym, ap, ◌∙◌}
use Rattle.bd_blocks.proofs.Spellings.{front_number-unique}
use Rattle.bd_blocks.specs.Texts.{before, number_text}
use Rattle.bd_script.proofs.numbers.two_numbers.Goals as goal

pub returns-in_default-read_number-clause-refused : goal.returns-in_default-read_number-clause-refused
returns-in_default-read_number-clause-refused c = λ p _ same.
    let first = c.in-Some.ensures.some in
    c.in_default-read_number.ensures.none p.1 (front_number-unique first.0 p.0 c.in-Some.rest.now (number_text p.1) (sym first.2 ∙ same)).1

pub returns-in_default-within-clause-refused : goal.returns-in_default-within-clause-refused
returns-in_default-within-clause-refused c =
    let first = c.in-Some.ensures.some in
    let second = c.in-Some-read_number.ensures.some in (
      (first.0, second.0),
      tt,
      first.2 ∙ ap (λ (rest : List ℕ). before (number_text first.0) rest) second.2,
      λ within. c.in_default-within.ensures.none first.0 first.1 within.0,
    )

pub returns-in_default-within-2-clause-refused : goal.returns-in_default-within-2-clause-refused
returns-in_default-within-2-clause-refused c =
    let first = c.in-Some.ensures.some in
    let second = c.in-Some-read_number.ensures.some in (
      (first.0, second.0),
      tt,
      first.2 ∙ ap (λ (rest : List ℕ). before (number_text first.0) rest) second.2,
      λ within. c.in_default-within-2.ensures.none second.0 second.1 within.1,
    )
