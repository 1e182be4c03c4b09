-- Fields, numbers and lines of a text.
use Rattle.std.specs.Prelude.{◌≡◌, ◌≢◌, ℕ, ◌+◌, ◌^◌, ◌≤◌, nat_eq, zero, suc, Bool, true, false, Option, None, Some, List, [], ◌∷◌, ◌++◌, map, codes, MatchOption}
use Rattle.std.specs.List.{list_any}
use Rattle.std.specs.Int.Digits.{digits_of}
use Rattle.bd_blocks.specs.declared.text.TheConstants.{LF, SPACE}
use Rattle.bd_blocks.specs.declared.text.numbers.Number.{Number}
use Rattle.bd_blocks.specs.declared.text.numbers.Number.TheVariants.{Small, Large}
use Rattle.bd_blocks.specs.declared.text.numbers.Within.{Within}

-- whether the byte stands in the text
abbrev pub has_byte : ℕ → List ℕ → Bool
has_byte byte text = list_any (nat_eq byte) text

-- a first field and what follows it
abbrev pub before : List ℕ → List ℕ → List ℕ
before field rest = field ++ SPACE ∷ rest

-- the text from the beginning of a line on: the line, and where it is ended, LF and the rest
abbrev pub from_line : List ℕ → Bool → List ℕ → List ℕ
from_line line true rest = line ++ LF ∷ rest
from_line line false rest = line

-- a number of any size in decimal digits, with no leading zero
unfoldable pub number_text : ℕ → List ℕ
number_text zero = codes "0"
number_text (suc n) = map (λ d. 48 + d) (digits_of 10 (suc n))

-- a name is its own text
abbrev pub name_text : List ℕ → List ℕ
name_text name = name

-- two numbers, parted by a space
abbrev pub two_numbers_text : ℕ × ℕ → List ℕ
two_numbers_text p = before (number_text p.0) (number_text p.1)

-- a number, or `-` for none
abbrev pub optional_text : Option ℕ → List ℕ
optional_text None = codes "-"
optional_text (Some n) = number_text n

-- what was read is this number; of a large one no more is known than that it has more than 64 bits
abbrev pub IsNumber : Number → ℕ → Type 0
IsNumber (Small value) n = n ≡ value
IsNumber Large n = 2 ^ 64 ≤ n

-- the number is within the range
abbrev pub IsWithin : Within → ℕ → Type 0
IsWithin range n = (range.least ≤ n) × (n ≤ range.most)

-- the text is that of the number that was read
abbrev pub IsNumberText : List ℕ → Number → Type 0
IsNumberText text number = (n : ℕ) × IsNumber number n × (text ≡ number_text n)

-- the text is that of no number
abbrev pub IsNoNumber : List ℕ → Type 0
IsNoNumber text = (n : ℕ) → text ≢ number_text n

-- the first field of the text is that of the number that was read, and this is the rest
abbrev pub HasNumberFirst : List ℕ → Number → List ℕ → Type 0
HasNumberFirst text number rest = (n : ℕ) × IsNumber number n × (text ≡ before (number_text n) rest)

-- the text has no first field that is a number
abbrev pub HasNoNumberFirst : List ℕ → Type 0
HasNoNumberFirst text = (n : ℕ) (rest : List ℕ) → text ≢ before (number_text n) rest

-- the value that fits and has this text was read, or there is none
abbrev pub Reads : {A : Type 0} → (A → List ℕ) → (A → Type 0) → List ℕ → Option A → Type 0
Reads {A} text_of Fits text result =
    MatchOption result ((a : A) → Fits a → text ≢ text_of a) (λ a. Fits a × (text ≡ text_of a))

-- the text begins with the text of this value and a space, and this is the rest
abbrev pub HasFirst : {A : Type 0} → (A → List ℕ) → (A → Type 0) → List ℕ → A → List ℕ → Type 0
HasFirst {A} text_of Fits text value rest = Fits value × (text ≡ before (text_of value) rest)

-- the text has no first field that is the text of a value that fits
abbrev pub HasNoFirst : {A : Type 0} → (A → List ℕ) → (A → Type 0) → List ℕ → Type 0
HasNoFirst {A} text_of Fits text = (a : A) (rest : List ℕ) → Fits a → text ≢ before (text_of a) rest
