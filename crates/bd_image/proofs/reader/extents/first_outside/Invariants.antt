use Rattle.std.proofs.Common.{◌<◌, ℕ}
use Rattle.bd_image.specs.Checks.{IsInside}
use Rattle.bd_image.proofs.reader.extents.first_outside.Given as goal

abbrev pub invariant-loop-e : goal.invariant-loop-e
invariant-loop-e l = (d : ℕ) → d < l.e → IsInside l.bytes l.j d
