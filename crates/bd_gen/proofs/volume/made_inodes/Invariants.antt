use Rattle.std.proofs.Common.{◌≡◌, map}
use Rattle.std.specs.List.{range_with_len}
use Rattle.bd_gen.specs.Volume.{made_slot}
use Rattle.bd_gen.proofs.volume.made_inodes.Given as goal

abbrev pub invariant-loop-record_number : goal.invariant-loop-record_number
invariant-loop-record_number l = l.inodes ≡ map made_slot (range_with_len 0 l.record_number)
