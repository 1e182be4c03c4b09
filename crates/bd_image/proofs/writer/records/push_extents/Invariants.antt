use Rattle.std.proofs.Common.{◌≡◌, ◌++◌, take}
use Rattle.std.specs.List.{flat_map}
use Rattle.bd_image.specs.Volumes.{extent_bytes}
use Rattle.bd_image.proofs.writer.records.push_extents.Given as goal

abbrev pub invariant-loop-extent : goal.invariant-loop-extent
invariant-loop-extent l = l.out.items ≡ l.initial.out.items ++ flat_map extent_bytes (take l.extent-index l.extents)
