use Rattle.std.proofs.Common.{◌<◌, ◌≤◌, ℕ}
use Rattle.bd_image.specs.Sharing.{IsTakenIn}
use Rattle.bd_image.proofs.reader.sharing.is_any_taken.Given as goal

abbrev pub invariant-loop-x : goal.invariant-loop-x
invariant-loop-x l = (k : ℕ) → l.start ≤ k → k < l.x → ¬ IsTakenIn l.taken k
