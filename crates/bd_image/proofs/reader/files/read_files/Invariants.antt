use Rattle.std.proofs.Common.{◌≡◌, map}
use Rattle.std.specs.List.{range_with_len}
use Rattle.bd_image.specs.Volumes.{inode_in_image}
use Rattle.bd_image.proofs.reader.files.read_files.Given as goal

abbrev pub invariant-loop-j : goal.invariant-loop-j
invariant-loop-j l = l.files ≡ map (inode_in_image l.bytes) (range_with_len 0 l.j)
