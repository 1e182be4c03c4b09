use Rattle.bd_image.specs.Sharing.{MarksBefore, SharesNone}
use Rattle.bd_image.proofs.reader.sharing.first_shared.Given as goal

abbrev pub invariant-loop-e : goal.invariant-loop-e
invariant-loop-e l = MarksBefore l.bytes l.taken l.j l.e × SharesNone l.bytes l.j l.e
