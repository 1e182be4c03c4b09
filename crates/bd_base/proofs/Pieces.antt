-- The pieces of a byte range lie in their blocks and in the range.
use Rattle.std.proofs.Common.{◌≡◌, ℕ, ◌+◌, ◌-◌, ◌*◌, ◌/◌, ◌<◌, ◌≤◌, Some, arith, subst}
use Rattle.std.specs.Prelude.{slice_get}
use Rattle.bd_base.specs.declared.limits.TheConstants.{BLOCK_SIZE}
use Rattle.bd_base.specs.Pieces.{Piece, piece_at, pieces}
use Rattle.bd_base.proofs.Ranges.{get-map-range}

-- a piece of the len bytes from off on has at least one byte, and all of its bytes are in its block and in the range
pub record IsPart (off len : ℕ) (piece : Piece) : Type 0 where
  pub some : piece.range.lo < piece.range.hi
  pub in_block : piece.range.hi ≤ BLOCK_SIZE
  pub from : off ≤ BLOCK_SIZE * piece.index + piece.range.lo
  pub to : BLOCK_SIZE * piece.index + piece.range.hi ≤ off + len

pub pieces-are_parts : (off len number : ℕ) (piece : Piece) → 1 ≤ len → slice_get (pieces off len) number ≡ Some piece → IsPart off len piece
pieces-are_parts off len number piece some is =
    let first = off / BLOCK_SIZE in
    let count = (off + len - 1) / BLOCK_SIZE + 1 - first in
    let this = get-map-range (piece_at off len) first count number piece is in
    let below : number < count = this.0 in
    subst (IsPart off len) this.1 (part off len (first + number) some (omega arith) (omega arith))
  where
    part : (off len index : ℕ) → 1 ≤ len → off < BLOCK_SIZE * index + BLOCK_SIZE → BLOCK_SIZE * index < off + len →
        IsPart off len (piece_at off len index)
    part off len index some begins ends = record { some = omega arith; in_block = omega arith; from = omega arith; to = omega arith }
