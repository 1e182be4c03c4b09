-- What a process that waits for the holder of a file is told.
use Rattle.std.specs.Prelude.{◌≡◌, ◌≢◌, ℕ, Some}
use Rattle.bd_entry.specs.Calls.{Place}
use Rattle.bd_entry.specs.Refusals.{file_of}
use Rattle.bd_turns.specs.declared.turn.Turn.TheVariants.{Waits}
use Rattle.bd_turns.specs.declared.turn.Wait.TheVariants.{Busy}
use Rattle.bd_turns.specs.State.{State, progress_of, running}
use Rattle.bd_turns.specs.Turns.{answer_of}

-- the running call of the process is on this file, and this other process holds it
pub record IsHeldByAnother (m : State) (process file holder : ℕ) : Type 0 where
  pub place : Place
  pub running_is : running m process ≡ Some place
  pub file_is : file_of m.store place ≡ Some file
  pub holds : (progress_of m holder).held ≡ Some file
  pub another : holder ≢ process

-- who waits for the holder of a file waits for another process that holds the file of its running call
abbrev pub BusyNamesTheHolder : Type 0
BusyNamesTheHolder =
    (m : State) (actor file holder : ℕ) → answer_of m actor ≡ Waits (Busy file holder) →
    IsHeldByAnother m actor file holder
