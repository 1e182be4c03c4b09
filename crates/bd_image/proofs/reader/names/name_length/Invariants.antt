use Rattle.std.proofs.Common.{◌<◌, ℕ, slice_index}
use Rattle.bd_base.specs.Names.{IsNameByte}
use Rattle.bd_image.proofs.reader.names.name_length.Given as goal

abbrev pub invariant-loop-k : goal.invariant-loop-k
invariant-loop-k l = (i : ℕ) → i < l.k → IsNameByte (slice_index l.field i)
