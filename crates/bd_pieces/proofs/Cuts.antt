-- The pieces of a byte range follow one another from its first byte to its last.
use Rattle.std.proofs.Common.{◌≡◌, ℕ, suc, zero, ◌+◌, ◌-◌, ◌*◌, ◌/◌, ◌<◌, ◌≤◌, max, [], Some, length, map, refl, ◌∙◌, add-zero, arith}
use Rattle.std.specs.List.{range_with_len, slice_get, sum_by}
use Rattle.std.proofs.lemmas.List.FromFn.{get_or-map-range_with_len, length-map-range_with_len}
use Rattle.std.proofs.lemmas.List.Sums.{sum_by-cons}
use Rattle.std.proofs.lemmas.Option.{none-some, same_Some}
use Rattle.bd_base.specs.declared.limits.TheConstants.{BLOCK_SIZE}
use Rattle.bd_base.specs.Pieces.{piece_at, pieces}
use Rattle.bd_base.proofs.Ranges.{get-map-range}
use Rattle.bd_pieces.specs.Laws.{AreNeighbours, IsInBlock, PiecesAreTheRange, piece_size}

-- the sizes of the pieces from block a on add up to the bytes from there on
sum-cut : (off len a n : ℕ) → off < BLOCK_SIZE * a + BLOCK_SIZE → BLOCK_SIZE * (a + n) < off + len → off + len ≤ BLOCK_SIZE * (a + n) + BLOCK_SIZE →
    sum_by piece_size (map (piece_at off len) (range_with_len a (suc n))) ≡ off + len - max off (BLOCK_SIZE * a)
sum-cut off len a zero begins ends covers = omega (arith, sum_by-cons piece_size (piece_at off len a) [])
sum-cut off len a (suc n) begins ends covers =
    omega (
      arith,
      sum_by-cons piece_size (piece_at off len a) (map (piece_at off len) (range_with_len (a + 1) (suc n))),
      sum-cut off len (a + 1) n (omega arith) (omega arith) (omega arith),
    )

-- the piece of a block that the range touches is in that block
in-block : (off len index : ℕ) → 0 < len → off < BLOCK_SIZE * index + BLOCK_SIZE → BLOCK_SIZE * index < off + len → IsInBlock (piece_at off len index)
in-block off len index some begins ends = record { some = omega arith; within = omega arith }

-- the pieces of two blocks in a row that the range touches are neighbours
neighbours : (off len index : ℕ) → off < BLOCK_SIZE * index + BLOCK_SIZE → BLOCK_SIZE * (index + 1) < off + len →
    AreNeighbours (piece_at off len index) (piece_at off len (index + 1))
neighbours off len index begins ends = record { to_end = omega arith; next_block = refl; from_start = omega arith }

-- the pieces of a byte range are its bytes, each once and in order
pub pieces_are_the_range : PiecesAreTheRange
pieces_are_the_range off len some =
    let first = off / BLOCK_SIZE in
    let more = (off + len - 1) / BLOCK_SIZE - first in
    let count : (off + len - 1) / BLOCK_SIZE + 1 - first ≡ suc more = omega arith in
    let cut = map (piece_at off len) (range_with_len first (suc more)) in
    let same : pieces off len ≡ cut = rw count refl in
    let all : length cut ≡ suc more = length-map-range_with_len (piece_at off len) first (suc more) in
    rw same (record {
      some = omega arith;
      in_blocks = λ k d lt.
          rw (get_or-map-range_with_len (piece_at off len) first (suc more) k (first + k) d (omega arith) refl)
          (in-block off len (first + k) some (omega arith) (omega arith));
      neighbours = λ k piece next is next_is.
          let this = get-map-range (piece_at off len) first (suc more) k piece is in
          let that = get-map-range (piece_at off len) first (suc more) (k + 1) next next_is in
          let after : first + k + 1 ≡ first + (k + 1) = omega arith in
          rw (← this.1, ← that.1, ← after) (neighbours off len (first + k) (omega arith) (omega arith));
      begins = λ piece is.
          let this = get-map-range (piece_at off len) first (suc more) 0 piece is in
          rw (← this.1) (omega arith);
      ends = λ piece is.
          let this = get-map-range (piece_at off len) first (suc more) (length cut - 1) piece is in
          rw (← this.1) (omega arith);
      total = sum-cut off len first more (omega arith) (omega arith) (omega arith) ∙ omega arith;
    })
