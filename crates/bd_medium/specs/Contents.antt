-- The bytes of all blocks of a device, in one list: block b begins at place 4096 * b.
use Rattle.std.specs.Prelude.{◌≡◌, ℕ, ◌+◌, ◌*◌, ◌/◌, ◌≤◌, List, ◌++◌, length, take, drop, replicate, slice_range}
use Rattle.bd_base.specs.declared.limits.TheConstants.{BLOCK_SIZE, BLOCKS}
use Rattle.bd_base.specs.Bounds.{Bounds}

-- the bytes are those of whole blocks, of which there are not too many
pub record AreBlocks (bytes : List ℕ) : Type 0 where
  pub whole : BLOCK_SIZE * (length bytes / BLOCK_SIZE) ≡ length bytes
  pub few : length bytes ≤ BLOCK_SIZE * BLOCKS

-- block b is there
abbrev pub HasBlock : List ℕ → ℕ → Type 0
HasBlock bytes b = BLOCK_SIZE * b + BLOCK_SIZE ≤ length bytes

-- the bytes of the range r of block b
abbrev pub range_bytes : List ℕ → ℕ → Bounds → List ℕ
range_bytes bytes b r = slice_range bytes (BLOCK_SIZE * b + r.lo) (BLOCK_SIZE * b + r.hi)

-- all bytes, where those from this place on became the bytes of the piece
abbrev pub with_bytes : List ℕ → ℕ → List ℕ → List ℕ
with_bytes bytes place piece = take place bytes ++ piece ++ drop (place + length piece) bytes

-- all bytes, where the range r of block b became the bytes of the piece
abbrev pub with_range : List ℕ → ℕ → Bounds → List ℕ → List ℕ
with_range bytes b r piece = with_bytes bytes (BLOCK_SIZE * b + r.lo) piece

-- all bytes, where those of block b became 0
abbrev pub with_block_zeroed : List ℕ → ℕ → List ℕ
with_block_zeroed bytes b = with_bytes bytes (BLOCK_SIZE * b) (replicate BLOCK_SIZE 0)
