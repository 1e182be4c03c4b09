use Rattle.bd_image.specs.Sharing.{MarksFiles}
use Rattle.bd_image.proofs.reader.bitmap.mark_taken.Given as goal

abbrev pub invariant-loop-j : goal.invariant-loop-j
invariant-loop-j l = MarksFiles l.bytes l.taken l.j
