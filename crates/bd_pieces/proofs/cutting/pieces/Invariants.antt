-- The list has the pieces of the blocks before this one.
use Rattle.std.proofs.Common.{◌≡◌, ◌-◌, map}
use Rattle.std.specs.List.{range_with_len}
use Rattle.bd_base.specs.Pieces.{piece_at}
use Rattle.bd_pieces.proofs.cutting.pieces.Given as goal

abbrev pub invariant-loop-index : goal.invariant-loop-index
invariant-loop-index l = l.list ≡ map (piece_at l.off l.len) (range_with_len l.first (l.index - l.first))
