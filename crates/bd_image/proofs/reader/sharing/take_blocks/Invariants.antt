use Rattle.std.proofs.Common.{◌<◌, ◌≤◌, ◌⊎◌, ◌↔◌, ℕ, length}
use Rattle.bd_image.specs.Sharing.{IsTakenIn}
use Rattle.bd_image.proofs.reader.sharing.take_blocks.Given as goal

abbrev pub invariant-loop-x : goal.invariant-loop-x
invariant-loop-x l = (k : ℕ) → k < length l.initial.taken → IsTakenIn l.taken k ↔ (IsTakenIn l.initial.taken k ⊎ ((l.start ≤ k) × (k < l.x)))
