use Rattle.bd_extents.specs.Bitmap.{NoneMarkedBefore}
use Rattle.bd_extents.proofs.bitmap.first_marked_word.Given as goal

-- no number of a word so far is marked
abbrev pub invariant-loop-index : goal.invariant-loop-index
invariant-loop-index l = NoneMarkedBefore l.words l.index
