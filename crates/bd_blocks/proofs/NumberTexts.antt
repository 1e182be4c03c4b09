-- Numbers of any size as texts: each is read back in one way.
use Rattle.std.specs.Fmt.{decimal}
use Rattle.std.specs.Int.Digits.{AllBelowBase, digits_of}
use Rattle.std.specs.Prelude.{nat_eq}
use Rattle.std.proofs.Common.{◌≡◌, ◌≢◌, ℕ, ◌+◌, ◌-◌, ◌*◌, ◌/◌, ◌%◌, ◌^◌, ◌<◌, ◌≤◌, false, List, [], ◌∷◌, ◌++◌, map, get_or, length, take, zero, suc, refl, sym, ap, ◌∙◌, subst, arith}
use Rattle.std.proofs.lemmas.Bool.Decides.{nat_tests}
use Rattle.std.proofs.lemmas.Fmt.{decimal-digits_of, decimal_digit}
use Rattle.std.proofs.lemmas.Int.Digits.{all_below_base_digits_of, digits_of_step, first_digits_of, same_from_digits_of}
use Rattle.std.proofs.lemmas.List.{append_cancel_left, map_push, take_more}
use Rattle.bd_blocks.specs.Texts.{has_byte, number_text}

-- the digits of a number, none for 0
unfoldable pub digits_text : ℕ → List ℕ
digits_text n = map (λ d. 48 + d) (digits_of 10 n)

-- each byte is a decimal digit
abbrev pub AreDigits : List ℕ → Type 0
AreDigits [] = Unit {0}
AreDigits (c ∷ cs) = (48 ≤ c) × (c < 58) × AreDigits cs

-- a text, if there is any, does not begin with a decimal digit
abbrev pub NoDigitFirst : List ℕ → Type 0
NoDigitFirst [] = Unit {0}
NoDigitFirst (c ∷ cs) = 48 ≤ c → c < 58 → ⊥

-- a list begins with a digit that is not 0
pub record BeginsNumber (text : List ℕ) : Type 0 where
  pub first : ℕ
  pub others : List ℕ
  pub is : text ≡ first ∷ others
  pub least : 49 ≤ first
  pub most : first < 58

pub digits-zero : digits_text 0 ≡ []
unfolding digits_text
digits-zero = refl

-- the digits of a number, with the last one apart
pub digits-step : (n : ℕ) → 0 < n → digits_text n ≡ digits_text (n / 10) ++ (48 + n % 10) ∷ []
unfolding digits_text
digits-step n some =
    ap (map (λ (d : ℕ). 48 + d)) (digits_of_step 10 n (omega arith) some)
    ∙ map_push (λ (d : ℕ). 48 + d) (digits_of 10 (n / 10)) (n % 10)

-- one more digit
pub digits-push : (v d : ℕ) → d < 10 → 0 < v * 10 + d → digits_text (v * 10 + d) ≡ digits_text v ++ (48 + d) ∷ []
digits-push v d small some =
    let quotient : (v * 10 + d) / 10 ≡ v = omega arith in
    let remainder : (v * 10 + d) % 10 ≡ d = omega arith in
    rw (digits-step (v * 10 + d) some, quotient, remainder)

digits-map : (xs : List ℕ) → AllBelowBase 10 xs → AreDigits (map (λ (d : ℕ). 48 + d) xs)
digits-map [] below = tt
digits-map (x ∷ xs) below = (omega arith, omega (arith, below.0), digits-map xs below.1)

digits-are : (n : ℕ) → AreDigits (digits_text n)
unfolding digits_text
digits-are n = digits-map (digits_of 10 n) (all_below_base_digits_of 10 n (omega arith))

map-begins : (xs : List ℕ) → AllBelowBase 10 xs → 0 < get_or xs 0 0 → BeginsNumber (map (λ (d : ℕ). 48 + d) xs)
map-begins [] below some = absurd (omega arith)
map-begins (x ∷ xs) below some = record {
  first = 48 + x;
  others = map (λ (d : ℕ). 48 + d) xs;
  is = refl;
  least = omega (arith, some);
  most = omega (arith, below.0);
}

digits-begin : (n : ℕ) → 0 < n → BeginsNumber (digits_text n)
unfolding digits_text
digits-begin n some =
    map-begins (digits_of 10 n) (all_below_base_digits_of 10 n (omega arith)) (first_digits_of 10 n (omega arith) some)

same-map : (xs ys : List ℕ) → map (λ (d : ℕ). 48 + d) xs ≡ map (λ (d : ℕ). 48 + d) ys → xs ≡ ys
same-map [] [] same = refl
same-map [] (y ∷ ys) same = cc
same-map (x ∷ xs) [] same = cc
same-map (x ∷ xs) (y ∷ ys) same =
    let heads : 48 + x ≡ 48 + y = cc in
    let tails : map (λ (d : ℕ). 48 + d) xs ≡ map (λ (d : ℕ). 48 + d) ys = cc in
    let first : x ≡ y = omega arith in
    cc (first, same-map xs ys tails)

digits-injective : (m n : ℕ) → digits_text m ≡ digits_text n → m ≡ n
unfolding digits_text
digits-injective m n same = same_from_digits_of 10 m n (omega arith) (same-map (digits_of 10 m) (digits_of 10 n) same)

-- where the digits end, two readings of one text agree
split-digits : (xs ys r s : List ℕ) → AreDigits xs → AreDigits ys → NoDigitFirst r → NoDigitFirst s → xs ++ r ≡ ys ++ s
    → (xs ≡ ys) × (r ≡ s)
split-digits [] [] r s a b m n same = (refl, same)
split-digits [] (y ∷ ys) r s a b m n same = absurd ((subst NoDigitFirst same m) b.0 b.1)
split-digits (x ∷ xs) [] r s a b m n same = absurd ((subst NoDigitFirst (sym same) n) a.0 a.1)
split-digits (x ∷ xs) (y ∷ ys) r s a b m n same =
    let heads : x ≡ y = cc in
    let tails : xs ++ r ≡ ys ++ s = cc in
    let rest = split-digits xs ys r s a.2 b.2 m n tails in
    (cc (heads, rest.0), rest.1)

pub number-zero : number_text 0 ≡ 48 ∷ []
unfolding number_text
number-zero = refl

-- a number that is not 0 is its digits
pub number-positive : (n : ℕ) → 0 < n → number_text n ≡ digits_text n
unfolding number_text digits_text
number-positive zero some = absurd (omega arith)
number-positive (suc n) some = refl

-- a number is digits, at least one
pub number-digits : (n : ℕ) → AreDigits (number_text n)
unfolding number_text
number-digits zero = (omega arith, omega arith, tt)
number-digits (suc n) = let digits : AreDigits (digits_text (suc n)) = digits-are (suc n) in
    subst AreDigits (sym (number-positive (suc n) (omega arith))) digits

-- the number 0 alone begins with 0
zero-first : (n : ℕ) → 0 < n → 48 ∷ [] ≢ digits_text n
zero-first n some same =
    let begins = digits-begin n some in
    let front : 48 ≡ begins.first = cc (begins.is) in
    absurd (omega (arith, begins.least))

-- a text is that of one number at most
pub number-injective : (m n : ℕ) → number_text m ≡ number_text n → m ≡ n
number-injective zero zero same = refl
number-injective zero (suc n) same = absurd (zero-first (suc n) (omega arith) (sym number-zero ∙ same ∙ number-positive (suc n) (omega arith)))
number-injective (suc m) zero same = absurd (zero-first (suc m) (omega arith) (sym number-zero ∙ sym same ∙ number-positive (suc m) (omega arith)))
number-injective (suc m) (suc n) same =
    digits-injective (suc m) (suc n) (sym (number-positive (suc m) (omega arith)) ∙ same ∙ number-positive (suc n) (omega arith))

-- the same number after the same text
pub same-number : (front : List ℕ) (m n : ℕ) → front ++ number_text m ≡ front ++ number_text n → m ≡ n
same-number front m n same = number-injective m n (append_cancel_left front (number_text m) (number_text n) same)

-- a number and what follows it are read in one way
pub number-unique : (m n : ℕ) (r s : List ℕ) → NoDigitFirst r → NoDigitFirst s → number_text m ++ r ≡ number_text n ++ s
    → (m ≡ n) × (r ≡ s)
number-unique m n r s p q same =
    let parts = split-digits (number_text m) (number_text n) r s (number-digits m) (number-digits n) p q same in
    (number-injective m n parts.0, parts.1)

digits-have_no : (byte : ℕ) → byte < 48 → (ds : List ℕ) → AreDigits ds → has_byte byte ds ≡ false
digits-have_no byte low [] digits = refl
digits-have_no byte low (d ∷ ds) digits =
    let other : nat_eq byte d ≡ false = grind (arith, nat_tests, digits.0) in
    rw other (digits-have_no byte low ds digits.2)

-- no byte below the digits stands in a number
pub number-has_no : (byte : ℕ) → byte < 48 → (n : ℕ) → has_byte byte (number_text n) ≡ false
number-has_no byte low n = digits-have_no byte low (number_text n) (number-digits n)

digits-at : (ds : List ℕ) (i : ℕ) → AreDigits ds → i < length ds → (48 ≤ get_or ds i 0) × (get_or ds i 0 < 58)
digits-at [] i digits within = absurd (omega arith)
digits-at (d ∷ ds) zero digits within = (digits.0, digits.1)
digits-at (d ∷ ds) (suc i) digits within = digits-at ds i digits.2 (omega arith)

-- a text with a byte that is no digit is no number
pub not-number : (text : List ℕ) (i n : ℕ) → i < length text → ((48 ≤ get_or text i 0) × (get_or text i 0 < 58) → ⊥)
    → text ≢ number_text n
not-number text i n within other same =
    let count : length text ≡ length (number_text n) = ap length same in
    let here : get_or text i 0 ≡ get_or (number_text n) i 0 = ap (λ (ds : List ℕ). get_or ds i 0) same in
    let digit = digits-at (number_text n) i (number-digits n) (omega arith) in
    other (omega (arith, here, digit.0), omega (arith, here, digit.1))

-- a number that is not 0 begins with a digit that is not 0
pub number-begins : (n : ℕ) (text : List ℕ) → text ≢ 48 ∷ [] → text ≡ number_text n
    → (49 ≤ get_or text 0 0) × (get_or text 0 0 < 58)
number-begins zero text other same = absurd (other (same ∙ number-zero))
number-begins (suc n) text other same =
    let begins = digits-begin (suc n) (omega arith) in
    let first : get_or text 0 0 ≡ begins.first = ap (λ (l : List ℕ). get_or l 0 0) (same ∙ number-positive (suc n) (omega arith) ∙ begins.is) in
    (omega (arith, first, begins.least), omega (arith, first, begins.most))

-- the last digit apart
pub number-step : (n : ℕ) → 10 ≤ n → number_text n ≡ number_text (n / 10) ++ (48 + n % 10) ∷ []
number-step n long =
    number-positive n (omega arith) ∙ digits-step n (omega arith)
    ∙ ap (λ (ds : List ℕ). ds ++ (48 + n % 10) ∷ []) (sym (number-positive (n / 10) (omega arith)))

pub number-digit : (n : ℕ) → n < 10 → number_text n ≡ (48 + n) ∷ []
number-digit zero small = number-zero
number-digit (suc n) small =
    let quotient : suc n / 10 ≡ 0 = omega arith in
    let remainder : suc n % 10 ≡ suc n = omega arith in
    number-positive (suc n) (omega arith) ∙ digits-step (suc n) (omega arith)
    ∙ ap (λ (k : ℕ). digits_text k ++ (48 + suc n % 10) ∷ []) quotient
    ∙ ap (λ (ds : List ℕ). ds ++ (48 + suc n % 10) ∷ []) digits-zero ∙ ap (λ (k : ℕ). (48 + k) ∷ []) remainder

-- std writes numbers so too
pub number-decimal : (n : ℕ) → n < 2 ^ 64 → number_text n ≡ decimal n
unfolding number_text
number-decimal zero small = sym (decimal_digit 0 (omega arith))
number-decimal (suc n) small = sym (decimal-digits_of (suc n) (omega arith) small)

positive-more : (text : List ℕ) (at n : ℕ) → (0 < at → 0 < n) → 49 ≤ get_or text 0 0 → 0 < n * 10 + (get_or text at 0 - 48)
positive-more text zero n p first = omega (arith, first)
positive-more text (suc at) n p first = omega (arith, p (omega arith))

-- the digits before a place are those of this number, which is not 0 past the first
pub record AreDigitsOf (text : List ℕ) (at n : ℕ) : Type 0 where
  pub digits : take at text ≡ digits_text n
  pub positive : 0 < at → 0 < n

-- one more digit of a text was counted
pub count-more : (text : List ℕ) (at n : ℕ) → at < length text → 48 ≤ get_or text at 0 → get_or text at 0 < 58
    → 49 ≤ get_or text 0 0 → AreDigitsOf text at n → AreDigitsOf text (at + 1) (n * 10 + (get_or text at 0 - 48))
count-more text at n within low high first are =
    let digit : ℕ = get_or text at 0 - 48 in
    let positive : 0 < n * 10 + digit = positive-more text at n are.positive first in
    let same : 48 + digit ≡ get_or text at 0 = omega arith in
    record {
      digits = take_more text at 0 within ∙ ap (λ (l : List ℕ). l ++ get_or text at 0 ∷ []) are.digits
          ∙ ap (λ (x : ℕ). digits_text n ++ x ∷ []) (sym same) ∙ sym (digits-push n digit (omega arith) positive);
      positive = λ _. positive;
    }
