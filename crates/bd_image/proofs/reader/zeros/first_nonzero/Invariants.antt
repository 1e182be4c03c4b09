use Rattle.bd_image.specs.Checks.{AreZero}
use Rattle.bd_image.proofs.reader.zeros.first_nonzero.Given as goal

abbrev pub invariant-loop-place : goal.invariant-loop-place
invariant-loop-place l = AreZero l.bytes l.low l.place
