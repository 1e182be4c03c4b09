use Rattle.std.proofs.Common.{◌≡◌, ◌<◌, ℕ, length}
use Rattle.bd_entry.specs.Calls.{calls_of}
use Rattle.bd_machine.specs.Turns.{IsAt}
use Rattle.bd_turns.specs.State.{State, progress_of}
use Rattle.bd_machine.proofs.machine.Machine.unfinished.Given as goal

-- all calls of the processes so far have ended
abbrev pub invariant-loop-number : goal.invariant-loop-number
invariant-loop-number g l =
    (m : State) → IsAt g.T.Tables l.self-inside.script l.self-inside.parts m →
    (process : ℕ) → process < l.number → (progress_of m process).ended ≡ length (calls_of l.self-inside.script process)
