use Rattle.bd_image.specs.Checks.{HasNoJoin}
use Rattle.bd_image.proofs.reader.extents.first_joined.Given as goal

abbrev pub invariant-loop-e : goal.invariant-loop-e
invariant-loop-e l = HasNoJoin l.bytes l.j l.e
