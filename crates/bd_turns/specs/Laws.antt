-- Laws of turns and runs: each is the contract of a function of src/laws.rt.
use Rattle.std.specs.Prelude.{◌≡◌, ◌≢◌, ℕ, List, ◌++◌}
use Rattle.bd_base.specs.declared.script.Script.{Script}
use Rattle.bd_entry.specs.Store.{Store}
use Rattle.bd_turns.specs.declared.turn.Event.{Event}
use Rattle.bd_turns.specs.declared.turn.Row.{Row}
use Rattle.bd_turns.specs.declared.turn.Turn.TheVariants.{Did}
use Rattle.bd_turns.specs.Course.{IsCourse, after_events, visible}
use Rattle.bd_turns.specs.State.{State}
use Rattle.bd_turns.specs.Turns.{after_turn, answer_of, visible_of}

-- a turn that answers that it has nothing to do, or waits, changes nothing
abbrev pub OtherTurnsChangeNothing : Type 0
OtherTurnsChangeNothing =
    (m : State) (actor : ℕ) → ((row : Row) → answer_of m actor ≢ Did row) → after_turn m actor ≡ m

-- no turn changes the script
abbrev pub ScriptsStay : Type 0
ScriptsStay = (m : State) (actor : ℕ) → (after_turn m actor).script ≡ m.script

-- a turn adds its entries at the end of the journal, and changes nothing before them
abbrev pub TurnsOnlyAdd : Type 0
TurnsOnlyAdd = (m : State) (actor : ℕ) → (after_turn m actor).journal ≡ m.journal ++ visible_of m actor

-- so do many turns
abbrev pub RunsOnlyAdd : Type 0
RunsOnlyAdd = (m : State) (events : List Event) → (after_events m events).journal ≡ m.journal ++ visible m events

-- a store and a script have one course: one trace, and one state at its end
abbrev pub HasOneCourse : Type 0
HasOneCourse =
    (start : Store) (script : Script) (trace other : List Event) (m n : State) →
    IsCourse start script trace m → IsCourse start script other n → (trace ≡ other) × (m ≡ n)
