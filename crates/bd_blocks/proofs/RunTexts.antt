-- The text of a run: what it is read back as, and which bytes do not stand in runs.
use Rattle.std.specs.Prelude.{nat_eq}
use Rattle.std.proofs.Common.{◌≡◌, ◌≢◌, ℕ, ◌-◌, ◌/◌, ◌%◌, ◌<◌, ◌≤◌, Bool, true, false, List, [], ◌∷◌, ◌++◌, length, take, drop, refl, sym, ap, ◌∙◌, subst, arith}
use Rattle.std.proofs.lemmas.Bool.Decides.{nat_tests}
use Rattle.std.proofs.lemmas.List.{take_rest}
use Rattle.bd_blocks.specs.Runs.{Run, hex_digit, later_text, run_text, runs_of, runs_text, text_of}
use Rattle.bd_blocks.specs.Texts.{IsNumber, IsNumberText, has_byte, number_text}
use Rattle.bd_blocks.specs.declared.text.numbers.Number.{Number}
use Rattle.bd_blocks.specs.declared.text.numbers.Number.TheVariants.{Small}
use Rattle.bd_blocks.proofs.FieldTexts.{append-has_no}
use Rattle.bd_blocks.proofs.NumberTexts.{NoDigitFirst, number-has_no, number-injective, number-unique}

hex-injective : (a b : ℕ) → a < 16 → b < 16 → hex_digit a ≡ hex_digit b → a ≡ b
hex-injective a b p q same = grind (arith, nat_tests)

same-run : (r q : Run) → r.byte ≡ q.byte → r.count ≡ q.count → r ≡ q
same-run r q byte count =
    ap (λ (x : ℕ). let run : Run = record { byte = x; count = r.count } in run) byte
    ∙ ap (λ (x : ℕ). let run : Run = record { byte = q.byte; count = x } in run) count

-- a run and what follows it are read in one way
pub run-unique : (r q : Run) (x y : List ℕ) → r.byte < 256 → q.byte < 256 → NoDigitFirst x → NoDigitFirst y
    → run_text r ++ x ≡ run_text q ++ y → (r ≡ q) × (x ≡ y)
run-unique r q x y r_byte q_byte m n same =
    let high-text : hex_digit (r.byte / 16) ≡ hex_digit (q.byte / 16) = cc in
    let low-text : hex_digit (r.byte % 16) ≡ hex_digit (q.byte % 16) = cc in
    let later : number_text r.count ++ x ≡ number_text q.count ++ y = cc in
    let high = hex-injective (r.byte / 16) (q.byte / 16) (omega arith) (omega arith) high-text in
    let low = hex-injective (r.byte % 16) (q.byte % 16) (omega arith) (omega arith) low-text in
    let byte : r.byte ≡ q.byte = omega (arith, high, low) in
    let rest = number-unique r.count q.count x y m n later in
    (same-run r q byte rest.0, rest.1)

pub later-no_digit : (rs : List Run) → NoDigitFirst (later_text rs)
later-no_digit [] = tt
later-no_digit (r ∷ rs) = λ low high. omega (arith, low)

hex-above : (d : ℕ) → 48 ≤ hex_digit d
hex-above d = grind (arith, nat_tests)

-- no byte below the digits stands in a run, but the star
pub run-has_no : (byte : ℕ) → byte < 48 → byte ≢ 42 → (r : Run) → has_byte byte (run_text r) ≡ false
run-has_no byte low star r =
    let high : nat_eq byte (hex_digit (r.byte / 16)) ≡ false = let above = hex-above (r.byte / 16) in grind (arith, nat_tests) in
    let second : nat_eq byte (hex_digit (r.byte % 16)) ≡ false = let above = hex-above (r.byte % 16) in grind (arith, nat_tests) in
    let third : nat_eq byte 42 ≡ false = grind (arith, nat_tests, star) in
    rw (high, second, third) (number-has_no byte low r.count)

later-has_no : (byte : ℕ) → byte < 42 → (rs : List Run) → has_byte byte (later_text rs) ≡ false
later-has_no byte low [] = refl
later-has_no byte low (r ∷ rs) =
    let comma : nat_eq byte 44 ≡ false = grind (arith, nat_tests) in
    let star : byte ≢ 42 = λ same. omega arith in
    rw comma (append-has_no byte (run_text r) (later_text rs) (run-has_no byte (omega arith) star r) (later-has_no byte low rs))

text-has_no : (byte : ℕ) → byte < 42 → (rs : List Run) → has_byte byte (text_of rs) ≡ false
text-has_no byte low [] = grind (arith, nat_tests)
text-has_no byte low (r ∷ rs) =
    let star : byte ≢ 42 = λ same. omega arith in
    append-has_no byte (run_text r) (later_text rs) (run-has_no byte (omega arith) star r) (later-has_no byte low rs)

-- no byte below the star stands in runs: no space, and no LF
pub runs-have_no : (byte : ℕ) → byte < 42 → (bytes : List ℕ) → has_byte byte (runs_text bytes) ≡ false
runs-have_no byte low bytes = text-has_no byte low (runs_of bytes)

-- what follows the star of a text is 0: the text is that of no run
pub no-zero_run : (text : List ℕ) (count : Number) → IsNumberText (take (length text - 3) (drop 3 text)) count → count ≡ Small 0
    → (r : Run) → r.byte < 256 → 0 < r.count → text ≢ run_text r
no-zero_run text count is zero r byte positive same =
    let digits : take (length text - 3) (drop 3 text) ≡ number_text r.count = take_rest text 3 ∙ ap (drop 3) same in
    let none : IsNumber (Small 0) is.0 = subst (λ (x : Number). IsNumber x is.0) zero is.1 in
    let equal : is.0 ≡ r.count = number-injective is.0 r.count (sym is.2 ∙ digits) in
    omega (arith, positive, none, equal)
