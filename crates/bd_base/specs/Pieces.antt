-- A byte range of a file, cut at the borders of its blocks.
use Rattle.std.specs.Prelude.{ℕ, ◌+◌, ◌-◌, ◌*◌, ◌/◌, min, max, List, map}
use Rattle.std.specs.List.{range_with_len}
use Rattle.bd_base.specs.declared.limits.TheConstants.{BLOCK_SIZE}
use Rattle.bd_base.specs.Bounds.{Bounds}

-- the part of a byte range that lies in block number index of the file
pub record Piece : Type 0 where
  pub index : ℕ
  pub range : Bounds

-- the part of the len bytes from off on that lies in block number index
abbrev pub piece_at : ℕ → ℕ → ℕ → Piece
piece_at off len index =
    record {
      index = index;
      range =
          record {
            lo = max off (BLOCK_SIZE * index) - BLOCK_SIZE * index;
            hi = min (off + len) (BLOCK_SIZE * index + BLOCK_SIZE) - BLOCK_SIZE * index;
          };
    }

-- the pieces of the len bytes from off on, in order, for len at least 1
abbrev pub pieces : ℕ → ℕ → List Piece
pieces off len =
    let first = off / BLOCK_SIZE in
    let last = (off + len - 1) / BLOCK_SIZE in
    map (piece_at off len) (range_with_len first (last + 1 - first))
