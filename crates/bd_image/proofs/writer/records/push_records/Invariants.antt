use Rattle.std.proofs.Common.{◌≡◌, ◌++◌, take}
use Rattle.std.specs.List.{flat_map}
use Rattle.bd_image.specs.Volumes.{record_bytes}
use Rattle.bd_image.proofs.writer.records.push_records.Given as goal

abbrev pub invariant-loop-inode : goal.invariant-loop-inode
invariant-loop-inode l = l.out.items ≡ l.initial.out.items ++ flat_map record_bytes (take l.inode-index l.inodes)
