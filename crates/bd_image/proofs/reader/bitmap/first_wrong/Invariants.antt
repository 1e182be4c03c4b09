use Rattle.std.proofs.Common.{◌<◌, ◌↔◌, ℕ, IsTrue}
use Rattle.bd_image.specs.Layout.{is_marked}
use Rattle.bd_image.specs.Rules.{IsInUse}
use Rattle.bd_image.proofs.reader.bitmap.first_wrong.Given as goal

abbrev pub invariant-loop-x : goal.invariant-loop-x
invariant-loop-x l = (k : ℕ) → k < l.x → IsTrue (is_marked l.bytes k) ↔ IsInUse l.bytes k
