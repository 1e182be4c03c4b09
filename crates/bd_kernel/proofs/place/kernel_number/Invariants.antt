use Rattle.std.proofs.Common.{◌≡◌, ℕ, ◌<◌, [], false}
use Rattle.bd_entry.specs.Refusals.{is_next_for_kernel}
use Rattle.bd_fs.specs.Files.{Files}
use Rattle.bd_kernel.specs.Sights.{AtPlace}
use Rattle.bd_kernel.specs.Turns.{ArePieceMarksOf}
use Rattle.bd_kernel.proofs.place.kernel_number.Given as goal

abbrev pub invariant-loop-number : goal.invariant-loop-number
invariant-loop-number l = (k : ℕ) → k < l.number → (fs : Files) →
    AtPlace fs l.table l.call l.fn.process l.running.opened (λ s p. ArePieceMarksOf l.running [] p.before → is_next_for_kernel s p k ≡ false)
