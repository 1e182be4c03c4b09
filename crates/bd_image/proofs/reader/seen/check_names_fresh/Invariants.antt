use Rattle.bd_image.proofs.Seen.{KnowsBefore}
use Rattle.bd_image.proofs.reader.seen.check_names_fresh.Given as goal

abbrev pub invariant-loop-j : goal.invariant-loop-j
invariant-loop-j l = KnowsBefore l.bytes l.seen l.j
