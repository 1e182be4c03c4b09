-- The bytes so far, and those of the parts that are left, are all.
use Rattle.std.proofs.Common.{◌≡◌, ◌++◌, drop}
use Rattle.bd_pieces.specs.Gathered.{gathered_bytes}
use Rattle.bd_pieces.proofs.gathering.bytes_of.Given as goal

abbrev pub invariant-loop-part : goal.invariant-loop-part
invariant-loop-part l = l.bytes.items ++ gathered_bytes (drop l.part-index l.parts) ≡ gathered_bytes l.parts
