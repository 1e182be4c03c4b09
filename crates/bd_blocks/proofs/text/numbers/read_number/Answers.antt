use Rattle.std.proofs.Common.{◌≡◌, ◌≢◌, List, ℕ, ◌<◌, ◌≤◌, [], ◌∷◌, get_or, length, refl, sym, ◌∙◌, arith, rules, take}
use Rattle.std.proofs.lemmas.Grind.{common_steps}
use Rattle.std.proofs.lemmas.List.{take_all}
use Rattle.bd_blocks.proofs.NumberTexts.{count-more, digits-zero, not-number, number-begins, number-positive, number-zero}
use Rattle.bd_blocks.proofs.text.numbers.read_number.Goals as goal

not_empty : (text : List ℕ) → 49 ≤ get_or text 0 0 → 0 < length text
not_empty [] first = absurd (omega arith)
not_empty (x ∷ text) first = omega arith

pub returns-then-eq-clause-some : goal.returns-then-eq-clause-some
returns-then-eq-clause-some c =
    let zero : c.args.text.now ≡ 48 ∷ [] = search (rules, common_steps) in
    (0, refl, zero ∙ sym number-zero)

pub returns-then-not-begins_number-clause-none : goal.returns-then-not-begins_number-clause-none
returns-then-not-begins_number-clause-none c = λ n same.
    let other : c.args.text.now ≢ 48 ∷ [] = search (rules, common_steps) in
    let first = number-begins n c.args.text.now other same in
    cc (c.begins_number.ensures.1 first, c.if-not-begins_number.true)

pub loop-digit-init : goal.loop-digit-init
loop-digit-init c = (0, refl, record { digits = sym digits-zero; positive = λ none. absurd (omega (arith, none)) })

pub returns-then-not-is_ascii_digit-clause-none : goal.returns-then-not-is_ascii_digit-clause-none
returns-then-not-is_ascii_digit-clause-none c = λ n.
    not-number c.args.text.now c.loop-digit.digit-index n c.loop-digit-test.true
    (λ digit. let no : ⊥ = grind (arith, common_steps, digit.0, digit.1, c.if-not-is_ascii_digit.ensures) in no)

pub loop-digit-preserved : goal.loop-digit-preserved
loop-digit-preserved c =
    let was = c.loop-digit.invariant in
    let low : 48 ≤ get_or c.args.text.now c.loop-digit.digit-index 0 = search (rules, common_steps) in
    let high : get_or c.args.text.now c.loop-digit.digit-index 0 < 58 = search (rules, common_steps) in
    let first : 49 ≤ get_or c.args.text.now 0 0 = search (rules, common_steps) in
    let more = count-more c.args.text.now c.loop-digit.digit-index was.0 c.loop-digit-test.true low high first was.2 in
    (_, c.with_digit-number.ensures was.0 was.1, more)

pub returns-clause-some : goal.returns-clause-some
returns-clause-some c =
    let was = c.loop-digit.invariant in
    let first : 49 ≤ get_or c.args.text.now 0 0 = search (rules, common_steps) in
    let some : 0 < length c.args.text.now = not_empty c.args.text.now first in
    let positive : 0 < was.0 = was.2.positive (omega (arith, c.loop-digit-test.false)) in
    let all : take c.loop-digit.digit-index c.args.text.now ≡ c.args.text.now = take_all c.loop-digit.digit-index c.args.text.now c.loop-digit-test.false in
    (was.0, was.1, sym all ∙ was.2.digits ∙ sym (number-positive was.0 positive))
