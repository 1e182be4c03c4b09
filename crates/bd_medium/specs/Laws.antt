-- What holds of bytes that are put among those of all blocks.
use Rattle.std.specs.Prelude.{◌≡◌, ℕ, ◌+◌, ◌-◌, ◌*◌, ◌<◌, ◌≤◌, ◌⊎◌, List, length, slice_get}
use Rattle.bd_base.specs.declared.limits.TheConstants.{BLOCK_SIZE}
use Rattle.bd_base.specs.Bounds.{Bounds}
use Rattle.bd_medium.specs.Contents.{range_bytes, with_bytes, with_range}

-- a range of a block has the bytes that were put there
abbrev pub PutIsThere : Type 0
PutIsThere =
    (bytes piece : List ℕ) (b : ℕ) (r : Bounds) →
    r.lo ≤ r.hi → BLOCK_SIZE * b + r.hi ≤ length bytes → length piece ≡ r.hi - r.lo →
    range_bytes (with_range bytes b r piece) b r ≡ piece

-- each byte before and after those that were put stays, and so does the number of bytes
abbrev pub OthersStay : Type 0
OthersStay =
    (bytes piece : List ℕ) (place : ℕ) → place + length piece ≤ length bytes →
    (length (with_bytes bytes place piece) ≡ length bytes)
    × ((i : ℕ) → (i < place) ⊎ (place + length piece ≤ i) →
    slice_get (with_bytes bytes place piece) i ≡ slice_get bytes i)
