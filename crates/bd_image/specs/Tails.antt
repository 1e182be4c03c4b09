-- The bytes of last blocks past the sizes of files.
use Rattle.std.specs.Prelude.{◌≡◌, ◌≢◌, ℕ, ◌<◌, List}
use Rattle.bd_image.specs.Layout.{IsUsed, byte_at}
use Rattle.bd_image.specs.Rules.{IsInTail}

-- the tail of record j is zero
abbrev pub IsTailZero : List ℕ → ℕ → Type 0
IsTailZero b j = (place : ℕ) → IsInTail b j place → byte_at b place ≡ 0

-- the first byte of the tail of record j that is not zero
pub record IsFirstInTail (b : List ℕ) (j found : ℕ) : Type 0 where
  pub in_tail : IsInTail b j found
  pub not_zero : byte_at b found ≢ 0
  pub before : (q : ℕ) → q < found → IsInTail b j q → byte_at b q ≡ 0

-- the tails of the first j records are zero below this place
abbrev pub AreTailsZeroBelow : List ℕ → ℕ → ℕ → Type 0
AreTailsZeroBelow b j place =
    (i q : ℕ) → i < j → IsUsed b i → q < place → IsInTail b i q → byte_at b q ≡ 0

-- the tails of the first j records are zero
abbrev pub AreTailsZero : List ℕ → ℕ → Type 0
AreTailsZero b j = (i : ℕ) → i < j → IsUsed b i → IsTailZero b i

-- the least byte of the tails of the first j records that is not zero
pub record IsLeastInTails (b : List ℕ) (j found : ℕ) : Type 0 where
  pub record_of : ℕ
  pub within : record_of < j
  pub used : IsUsed b record_of
  pub in_tail : IsInTail b record_of found
  pub not_zero : byte_at b found ≢ 0
  pub below : AreTailsZeroBelow b j found
