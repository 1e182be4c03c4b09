use Rattle.std.proofs.Common.{◌≡◌, ℕ, ◌<◌, true}
use Rattle.bd_kernel.specs.Marks.{is_marked}
use Rattle.bd_kernel.proofs.running_call.RunningCall.are_answered.Given as goal

abbrev pub invariant-loop-piece : goal.invariant-loop-piece
invariant-loop-piece l = (k : ℕ) → k < l.piece → is_marked l.self.answered k ≡ true
