use Rattle.std.proofs.Common.{◌≡◌, ℕ, ◌<◌, false}
use Rattle.bd_fs.specs.Files.{Files}
use Rattle.bd_kernel.specs.Sights.{AtPlace}
use Rattle.bd_kernel.specs.Turns.{ArePieceMarksOf, may_submit}
use Rattle.bd_kernel.proofs.pieces.piece_to_submit.Given as goal

abbrev pub invariant-loop-number : goal.invariant-loop-number
invariant-loop-number l = (k : ℕ) → k < l.number → (fs : Files) →
    AtPlace fs l.table l.call l.fn.process l.running.opened
    (λ s p. ArePieceMarksOf l.running l.outstanding p.before → may_submit s (record { place = p; outstanding = l.outstanding }) k ≡ false)
