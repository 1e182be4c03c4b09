use Rattle.std.proofs.Common.{◌≡◌, ℕ, List, sym, ap, ◌∙◌}
use Rattle.bd_blocks.specs.Texts.{before, number_text}
use Rattle.bd_blocks.proofs.Spellings.{front_number-unique}
use Rattle.bd_script.specs.Reading.{triple_text}
use Rattle.bd_script.proofs.numbers.three_numbers.Goals as goal

-- two numbers at the front, and one after them
whole : (text first second : List ℕ) (a b n : ℕ) → text ≡ before (number_text a) first → first ≡ before (number_text b) second
    → second ≡ number_text n → text ≡ triple_text (record { first = a; second = b; third = n })
whole text first second a b n one two three =
    one ∙ ap (λ (rest : List ℕ). before (number_text a) rest) (two ∙ ap (λ (rest : List ℕ). before (number_text b) rest) three)

pub returns-in_default-front_number-clause-refused : goal.returns-in_default-front_number-clause-refused
returns-in_default-front_number-clause-refused c = λ t _ same.
    let first = c.in-Some.ensures.some in
    let rest : List ℕ = before (number_text t.second) (number_text t.third) in
    c.in_default-front_number.ensures.none t.second (number_text t.third)
    (front_number-unique first.0 t.first c.in-Some.rest.now rest (sym first.2 ∙ same)).1

pub returns-in_default-read_number-clause-refused : goal.returns-in_default-read_number-clause-refused
returns-in_default-read_number-clause-refused c = λ t _ same.
    let first = c.in-Some.ensures.some in
    let second = c.in-Some-front_number.ensures.some in
    let rest : List ℕ = before (number_text t.second) (number_text t.third) in
    let after = (front_number-unique first.0 t.first c.in-Some.rest.now rest (sym first.2 ∙ same)).1 in
    c.in_default-read_number.ensures.none t.third
    (front_number-unique second.0 t.second c.in-Some-front_number.rest.now (number_text t.third) (sym second.2 ∙ after)).1

pub returns-in_default-within-clause-refused : goal.returns-in_default-within-clause-refused
returns-in_default-within-clause-refused c =
    let first = c.in-Some.ensures.some in
    let second = c.in-Some-front_number.ensures.some in
    let third = c.in-Some-read_number.ensures.some in (
      record { first = first.0; second = second.0; third = third.0 },
      tt,
      whole _ c.in-Some.rest.now c.in-Some-front_number.rest.now first.0 second.0 third.0 first.2 second.2 third.2,
      λ within. c.in_default-within.ensures.none first.0 first.1 within.0,
    )

pub returns-in_default-within-2-clause-refused : goal.returns-in_default-within-2-clause-refused
returns-in_default-within-2-clause-refused c =
    let first = c.in-Some.ensures.some in
    let second = c.in-Some-front_number.ensures.some in
    let third = c.in-Some-read_number.ensures.some in (
      record { first = first.0; second = second.0; third = third.0 },
      tt,
      whole _ c.in-Some.rest.now c.in-Some-front_number.rest.now first.0 second.0 third.0 first.2 second.2 third.2,
      λ within. c.in_default-within-2.ensures.none second.0 second.1 within.1,
    )

pub returns-in_default-within-3-clause-refused : goal.returns-in_default-within-3-clause-refused
returns-in_default-within-3-clause-refused c =
    let first = c.in-Some.ensures.some in
    let second = c.in-Some-front_number.ensures.some in
    let third = c.in-Some-read_number.ensures.some in (
      record { first = first.0; second = second.0; third = third.0 },
      tt,
      whole _ c.in-Some.rest.now c.in-Some-front_number.rest.now first.0 second.0 third.0 first.2 second.2 third.2,
      λ within. c.in_default-within-3.ensures.none third.0 third.1 within.2,
    )
