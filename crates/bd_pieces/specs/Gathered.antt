-- The bytes that the parts of a read give together.
use Rattle.std.specs.Prelude.{◌≡◌, ◌⊎◌, ℕ, ◌-◌, ◌<◌, ◌≤◌, nat_lt, cond, take, Some, List, [], ◌∷◌, ◌++◌, length, slice_get, All}
use Rattle.std.specs.List.{flat_map}
use Rattle.bd_pieces.specs.declared.gathering.PieceBytes.{PieceBytes}

-- the bytes in order, up to and with the first part that gave fewer than asked
abbrev pub gathered_bytes : List PieceBytes → List ℕ
gathered_bytes [] = []
gathered_bytes (part ∷ parts) =
    cond (nat_lt (length part.bytes) (part.range.hi - part.range.lo)) part.bytes (part.bytes ++ gathered_bytes parts)

-- the part has fewer bytes than its range asks for
abbrev pub IsShort : PieceBytes → Type 0
IsShort part = length part.bytes < part.range.hi - part.range.lo

-- the last of the first parts up to this count, and it is short
pub record IsLastShort (parts : List PieceBytes) (count : ℕ) : Type 0 where
  pub last : PieceBytes
  pub some : 0 < count
  pub stands : slice_get parts (count - 1) ≡ Some last
  pub short : IsShort last

-- the bytes of the first parts up to some count: those before the last are whole, and they are all parts or the last is
-- short
pub record AreFirstBytes (parts : List PieceBytes) (bytes : List ℕ) : Type 0 where
  pub count : ℕ
  pub within : count ≤ length parts
  pub bytes_of : bytes ≡ flat_map (λ part. part.bytes) (take count parts)
  pub whole : All (λ part. ¬ IsShort part) (take (count - 1) parts)
  pub ends : (count ≡ length parts) ⊎ IsLastShort parts count
