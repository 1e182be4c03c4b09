-- Bytes as runs: `HH*N` items joined by commas, or `-` for no bytes.
use Rattle.std.specs.Prelude.{◌≡◌, ◌≢◌, ℕ, ◌+◌, ◌-◌, ◌/◌, ◌%◌, ◌<◌, ◌≤◌, nat_eq, nat_lt, cond, List, [], ◌∷◌, ◌++◌, length, drop, replicate, slice_index}
use Rattle.bd_base.specs.Bytes.{AreBytes}
use Rattle.bd_blocks.specs.Texts.{number_text}

-- a byte, and how many of it stand in a row
pub record Run : Type 0 where
  pub byte : ℕ
  pub count : ℕ

-- these runs with one more byte in front
abbrev pub with_front_byte : ℕ → List Run → List Run
with_front_byte b [] = record { byte = b; count = 1 } ∷ []
with_front_byte b (r ∷ rs) =
    cond (nat_eq r.byte b)
    (record { byte = b; count = r.count + 1 } ∷ rs)
    (record { byte = b; count = 1 } ∷ r ∷ rs)

-- the longest runs of bytes that are the same, in order
abbrev pub runs_of : List ℕ → List Run
runs_of [] = []
runs_of (b ∷ bs) = with_front_byte b (runs_of bs)

-- an upper-case hexadecimal digit
abbrev pub hex_digit : ℕ → ℕ
hex_digit d = cond (nat_lt d 10) (48 + d) (55 + d)

-- the text of a run: two hexadecimal digits of the byte, `*`, and how many
abbrev pub run_text : Run → List ℕ
run_text r = hex_digit (r.byte / 16) ∷ hex_digit (r.byte % 16) ∷ 42 ∷ number_text r.count

-- the text of runs that follow another: a comma before each
abbrev pub later_text : List Run → List ℕ
later_text [] = []
later_text (r ∷ rs) = 44 ∷ (run_text r ++ later_text rs)

-- the text of runs: joined by commas, and `-` for none
abbrev pub text_of : List Run → List ℕ
text_of [] = 45 ∷ []
text_of (r ∷ rs) = run_text r ++ later_text rs

-- the one spelling of a list of bytes
abbrev pub runs_text : List ℕ → List ℕ
runs_text bytes = text_of (runs_of bytes)

-- the first of these runs, if any, is of another byte
abbrev pub NotFirst : ℕ → List Run → Type 0
NotFirst b [] = Unit {0}
NotFirst b (r ∷ rs) = r.byte ≢ b

-- runs of bytes, none empty, no two neighbours of the same byte
abbrev pub AreRuns : List Run → Type 0
AreRuns [] = Unit {0}
AreRuns (r ∷ rs) = (r.byte < 256) × (0 < r.count) × NotFirst r.byte rs × AreRuns rs

-- the bytes to which runs expand
abbrev pub bytes_of : List Run → List ℕ
bytes_of [] = []
bytes_of (r ∷ rs) = replicate r.count r.byte ++ bytes_of rs

-- the bytes, if any, do not begin with this one
abbrev pub NotFirstByte : ℕ → List ℕ → Type 0
NotFirstByte b [] = Unit {0}
NotFirstByte b (x ∷ xs) = x ≢ b

-- from the first place to the second stands one byte alone, and another after it
pub record IsRunAt (bytes : List ℕ) (at end : ℕ) : Type 0 where
  pub after : at < end
  pub within : end ≤ length bytes
  pub run : drop at bytes ≡ replicate (end - at) (slice_index bytes at) ++ drop end bytes
  pub longest : NotFirstByte (slice_index bytes at) (drop end bytes)

-- the text of the run that begins at a place and goes on to another
abbrev pub run_at_text : List ℕ → ℕ → ℕ → List ℕ
run_at_text bytes at end = run_text (record { byte = slice_index bytes at; count = end - at })

-- the text is the runs of at most so many bytes
abbrev pub AreRunsUpTo : ℕ → List ℕ → Type 0
AreRunsUpTo most text = (bytes : List ℕ) × AreBytes bytes × (runs_text bytes ≡ text) × (length bytes ≤ most)

-- the text is the runs of more than so many bytes
abbrev pub AreRunsOfMore : ℕ → List ℕ → Type 0
AreRunsOfMore most text = (bytes : List ℕ) × AreBytes bytes × (runs_text bytes ≡ text) × (most < length bytes)

-- the text is the runs of no list of bytes
abbrev pub AreNoRuns : List ℕ → Type 0
AreNoRuns text = (bytes : List ℕ) → AreBytes bytes → runs_text bytes ≢ text
