-- The law of pieces: it is the contract of the function of src/laws.rt.
use Rattle.std.specs.Prelude.{◌≡◌, ℕ, ◌+◌, ◌-◌, ◌*◌, ◌<◌, ◌≤◌, List, Some, length}
use Rattle.std.specs.List.{All, slice_get, sum_by}
use Rattle.bd_base.specs.declared.limits.TheConstants.{BLOCK_SIZE}
use Rattle.bd_base.specs.Pieces.{Piece, pieces}

-- the place of the file where the piece begins
abbrev pub begin_of : Piece → ℕ
begin_of piece = BLOCK_SIZE * piece.index + piece.range.lo

-- the place after its last byte
abbrev pub end_of : Piece → ℕ
end_of piece = BLOCK_SIZE * piece.index + piece.range.hi

-- how many bytes it has
abbrev pub piece_size : Piece → ℕ
piece_size piece = piece.range.hi - piece.range.lo

-- it has at least one byte, and all within its block
pub record IsInBlock (piece : Piece) : Type 0 where
  pub some : piece.range.lo < piece.range.hi
  pub within : piece.range.hi ≤ BLOCK_SIZE

-- the first goes to the end of its block, and the other begins where the next block does
pub record AreNeighbours (piece next : Piece) : Type 0 where
  pub to_end : piece.range.hi ≡ BLOCK_SIZE
  pub next_block : next.index ≡ piece.index + 1
  pub from_start : next.range.lo ≡ 0

-- these pieces are the len bytes from off on, each once and in order
pub record AreBytesOf (off len : ℕ) (cut : List Piece) : Type 0 where
  pub some : 0 < length cut
  pub in_blocks : All IsInBlock cut
  pub neighbours :
      (k : ℕ) (piece next : Piece) → slice_get cut k ≡ Some piece → slice_get cut (k + 1) ≡ Some next →
      AreNeighbours piece next
  pub begins : (piece : Piece) → slice_get cut 0 ≡ Some piece → begin_of piece ≡ off
  pub ends : (piece : Piece) → slice_get cut (length cut - 1) ≡ Some piece → end_of piece ≡ off + len
  pub total : sum_by piece_size cut ≡ len

-- the pieces of a byte range are its bytes, each once
abbrev pub PiecesAreTheRange : Type 0
PiecesAreTheRange = (off len : ℕ) → 1 ≤ len → AreBytesOf off len (pieces off len)
