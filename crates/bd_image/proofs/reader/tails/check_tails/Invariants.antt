use Rattle.bd_image.proofs.Tails.{TailsFound}
use Rattle.bd_image.proofs.reader.tails.check_tails.Given as goal

abbrev pub invariant-loop-j : goal.invariant-loop-j
invariant-loop-j l = TailsFound l.bytes l.j l.least
