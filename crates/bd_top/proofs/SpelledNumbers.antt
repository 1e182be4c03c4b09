-- Numbers that are words.
use Rattle.std.proofs.Common.{◌≡◌, ℕ, zero, suc, ◌+◌, ◌-◌, ◌^◌, ◌<◌, ◌≤◌, Bool, true, false, cond, nat_lt, ◌&&◌, List, [], ◌∷◌, map, Option, None, Some, refl, ap, sym, ◌∙◌, subst, inl, inr, arith}
use Rattle.std.specs.Int.Digits.{digits_of, number_from_digits}
use Rattle.std.specs.Str.{bytes_eq}
use Rattle.std.proofs.lemmas.Bool.{and_from, cases_Bool, cond-false, cond-true, lt-ltb}
use Rattle.std.proofs.lemmas.Bool.Decides.{nat_tests}
use Rattle.std.proofs.lemmas.Int.Digits.{number_digits_of}
use Rattle.std.proofs.lemmas.Slice.Eq.{bytes_eq-Decides}
use Rattle.bd_blocks.specs.Texts.{IsNoNumber, number_text}
use Rattle.bd_top.specs.Words.{number_in, number_spelled}

digits-back : (digits : List ℕ) → map (λ digit. digit - 48) (map (λ d. 48 + d) digits) ≡ digits
digits-back [] = refl
digits-back (d ∷ ds) =
    let here : 48 + d - 48 ≡ d = omega arith in
    ap (λ (x : ℕ). x ∷ map (λ digit. digit - 48) (map (λ d. 48 + d) ds)) here ∙ ap (λ (l : List ℕ). d ∷ l) (digits-back ds)

-- a number is the one that its text spells
spelled-number_text : (n : ℕ) → number_spelled (number_text n) ≡ n
unfolding number_text number_spelled
spelled-number_text zero = refl
spelled-number_text (suc n) =
    ap (number_from_digits 10) (digits-back (digits_of 10 (suc n))) ∙ number_digits_of 10 (suc n) (omega arith)

second-fails : (a b : Bool) → b ≡ false → (a && b) ≡ false
second-fails true b fails = fails
second-fails false b fails = refl

first-fails : (a b : Bool) → a ≡ false → (a && b) ≡ false
first-fails a b fails = rw fails refl

-- whether the word is the text of the number that it spells
is_text : List ℕ → Bool
is_text word = bytes_eq word (number_text (number_spelled word))

text-decides : (word : List ℕ) (n : ℕ) → word ≡ number_text n → is_text word ≡ true
unfolding is_text
text-decides word n is =
    (bytes_eq-Decides word (number_text (number_spelled word))).1
    (is ∙ sym (ap number_text (ap number_spelled is ∙ spelled-number_text n)))

no_text-decides : (word : List ℕ) → IsNoNumber word → is_text word ≡ false
unfolding is_text
no_text-decides word none =
    elim (cases_Bool (bytes_eq word (number_text (number_spelled word)))) [
      | inl same ↦ absurd (none (number_spelled word) ((bytes_eq-Decides word (number_text (number_spelled word))).0 same))
      | inr other ↦ other
    ]

pub number_in-small : (word : List ℕ) (n : ℕ) → n < 2 ^ 64 → word ≡ number_text n → number_in word ≡ Some n
unfolding number_in is_text
number_in-small word n small is =
    let spelled : number_spelled word ≡ n = ap number_spelled is ∙ spelled-number_text n in
    let low : nat_lt (number_spelled word) (2 ^ 64) ≡ true = lt-ltb (number_spelled word) (2 ^ 64) (omega arith) in
    cond-true (is_text word && nat_lt (number_spelled word) (2 ^ 64)) (Some (number_spelled word)) None
    (and_from (is_text word) (nat_lt (number_spelled word) (2 ^ 64)) (text-decides word n is) low)
    ∙ ap Some spelled

pub number_in-large : (word : List ℕ) (n : ℕ) → 2 ^ 64 ≤ n → word ≡ number_text n → number_in word ≡ None
unfolding number_in is_text
number_in-large word n large is =
    let spelled : number_spelled word ≡ n = ap number_spelled is ∙ spelled-number_text n in
    let high : nat_lt (number_spelled word) (2 ^ 64) ≡ false = grind (arith, nat_tests) in
    cond-false (is_text word && nat_lt (number_spelled word) (2 ^ 64)) (Some (number_spelled word)) None
    (second-fails (is_text word) (nat_lt (number_spelled word) (2 ^ 64)) high)

pub number_in-none : (word : List ℕ) → IsNoNumber word → number_in word ≡ None
unfolding number_in is_text
number_in-none word none =
    cond-false (is_text word && nat_lt (number_spelled word) (2 ^ 64)) (Some (number_spelled word)) None
    (first-fails (is_text word) (nat_lt (number_spelled word) (2 ^ 64)) (no_text-decides word none))
