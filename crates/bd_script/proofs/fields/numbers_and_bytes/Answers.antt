use Rattle.std.proofs.Common.{◌≡◌, ◌≤◌, ℕ, List, length, sym, ap, ◌∙◌}
use Rattle.std.proofs.lemmas.Result.{err_from_is_err_and}
use Rattle.bd_blocks.specs.Runs.{runs_text}
use Rattle.bd_blocks.specs.Texts.{before, number_text}
use Rattle.bd_blocks.proofs.Spellings.{front_number-unique}
use Rattle.bd_script.specs.declared.fields.Placed.{Placed}
use Rattle.bd_script.specs.Reading.{AreSome, FitsPlaced, placed_text}
use Rattle.bd_script.proofs.Lifts.{lift}
use Rattle.bd_script.proofs.fields.numbers_and_bytes.Goals as goal

-- two numbers at the front, and bytes after them
whole : (text first second : List ℕ) (a b : ℕ) (bytes : List ℕ) → text ≡ before (number_text a) first → first ≡ before (number_text b) second
    → second ≡ runs_text bytes → text ≡ placed_text (record { first = a; second = b; bytes = bytes })
whole text first second a b bytes one two three =
    one ∙ ap (λ (rest : List ℕ). before (number_text a) rest) (two ∙ ap (λ (rest : List ℕ). before (number_text b) rest) three)

pub returns-in_default-front_number-clause-refused : goal.returns-in_default-front_number-clause-refused
returns-in_default-front_number-clause-refused c = λ p has same.
    let first = c.in-Some.ensures.some in
    c.in_default-front_number.ensures.none p.second (runs_text p.bytes)
    (front_number-unique first.0 p.first c.in-Some.rest.now (before (number_text p.second) (runs_text p.bytes)) (sym first.2 ∙ same)).1

pub returns-in_err-bytes-clause-refused : goal.returns-in_err-bytes-clause-refused
returns-in_err-bytes-clause-refused c =
    let first = c.in-Some.ensures.some in
    let second = c.in-Some-front_number.ensures.some in
    let p = err_from_is_err_and c.from_residual.result c.from_residual.ensures.1 in
    rw (p.1, p.2) (lift runs_text AreSome (λ (bytes : List ℕ). length bytes ≤ c.args.most) placed_text (λ (p : Placed). AreSome p.bytes)
    (FitsPlaced c.args.first c.args.second c.args.most) c.in-Some-front_number.rest.now c.args.text.now
    (λ p has same.
    let rest : List ℕ = before (number_text p.second) (runs_text p.bytes) in
    let after = (front_number-unique first.0 p.first c.in-Some.rest.now rest (sym first.2 ∙ same)).1 in
    let bytes = front_number-unique second.0 p.second c.in-Some-front_number.rest.now (runs_text p.bytes) (sym second.2 ∙ after) in
    (p.bytes, has, bytes.1))
    (λ bytes has same out. (
      record { first = first.0; second = second.0; bytes = bytes },
      has,
      whole _ c.in-Some.rest.now c.in-Some-front_number.rest.now first.0 second.0 bytes first.2 second.2 same,
      λ fits. out fits.2,
    )) c.in_err-bytes.field-0.0 c.in_err-bytes.ensures.refused)

pub returns-in_default-within-clause-refused : goal.returns-in_default-within-clause-refused
returns-in_default-within-clause-refused c =
    let first = c.in-Some.ensures.some in
    let second = c.in-Some-front_number.ensures.some in
    let bytes = c.in_ok-bytes.bytes in (
      record { first = first.0; second = second.0; bytes = bytes },
      c.in_ok-bytes.ensures.fits.0,
      whole _ c.in-Some.rest.now c.in-Some-front_number.rest.now first.0 second.0 bytes first.2 second.2 c.in_ok-bytes.ensures.text,
      λ within. c.in_default-within.ensures.none first.0 first.1 within.0,
    )

pub returns-in_default-within-2-clause-refused : goal.returns-in_default-within-2-clause-refused
returns-in_default-within-2-clause-refused c =
    let first = c.in-Some.ensures.some in
    let second = c.in-Some-front_number.ensures.some in
    let bytes = c.in_ok-bytes.bytes in (
      record { first = first.0; second = second.0; bytes = bytes },
      c.in_ok-bytes.ensures.fits.0,
      whole _ c.in-Some.rest.now c.in-Some-front_number.rest.now first.0 second.0 bytes first.2 second.2 c.in_ok-bytes.ensures.text,
      λ within. c.in_default-within-2.ensures.none second.0 second.1 within.1,
    )
