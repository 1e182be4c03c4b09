use Rattle.std.proofs.Common.{◌≡◌, map}
use Rattle.std.specs.List.{range_with_len}
use Rattle.bd_image.specs.Layout.{extent_at}
use Rattle.bd_image.proofs.reader.files.read_extents.Given as goal

abbrev pub invariant-loop-e : goal.invariant-loop-e
invariant-loop-e l = l.extents ≡ map (extent_at l.bytes l.j) (range_with_len 0 l.e)
