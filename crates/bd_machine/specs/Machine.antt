-- What contracts see of a machine: the state of the abstract machine.
use Rattle.std.specs.Prelude.{◌≡◌, ℕ, ◌+◌, ◌-◌, ◌^◌, ◌<◌, true, min, List, [], ◌++◌, length}
use Rattle.bd_base.specs.declared.journal.At.{At}
use Rattle.bd_base.specs.declared.script.Script.{Script}
use Rattle.bd_base.specs.declared.volume.Volume.{Volume}
use Rattle.bd_entry.specs.Calls.{calls_of, is_finished}
use Rattle.bd_entry.specs.History.{InOrder}
use Rattle.bd_entry.specs.Laws.{IsHistory}
use Rattle.bd_entry.specs.Store.{start_store, volume_in}
use Rattle.bd_machine.specs.Whole.{Whole}
use Rattle.bd_machine.specs.declared.run.Run.{Run}
use Rattle.bd_machine.specs.Kept.{state_shown}
use Rattle.bd_machine.specs.Turns.{IsAt}
use Rattle.bd_tables.specs.declared.plain.PlainPass.{PlainPass}
use Rattle.bd_tables.specs.declared.sides.Tables as sides
use Rattle.bd_tables.specs.Plain.{PlainState}
use Rattle.bd_turns.specs.declared.turn.Event.{Event}
use Rattle.bd_turns.specs.Course.{IsCourse, event_of, visible}
use Rattle.bd_turns.specs.State.{State, boot_state, progress_of, running_at}
use Rattle.bd_turns.specs.Turns.{after_turn, answer_of, process_count}

-- the state of a machine, the effective turns so far, and how many turns were taken
pub record Progress : Type 0 where
  pub state : State
  pub trace : List Event
  pub turns : ℕ

-- a machine over tables for one thread
abbrev pub PlainWhole : Type 0 → Type 0
PlainWhole M = Whole PlainState M PlainPass

-- the machine shows this state
abbrev pub IsShown : {T M P : Type 0} → sides.Ghosts T P → Whole T M P → State → Type 0
IsShown K x m = IsAt K x.script x.parts m

-- a machine always shows a state, and this holds of each that it shows
pub record InItsStates {T M P : Type 0} (K : sides.Ghosts T P) (x : Whole T M P) (Holds : State → Type 0) : Type 0 where
  pub some : (m : State) × IsShown K x m
  pub each : (m : State) → IsShown K x m → Holds m

-- what contracts see of a machine over tables for one thread
abbrev pub state_of : {M : Type 0} → PlainWhole M → State
state_of x = state_shown x.script x.parts

abbrev pub shown : {M : Type 0} → PlainWhole M → Progress
shown x = record { state = state_of x; trace = x.parts.log.events; turns = x.parts.log.turns }

-- the journal is a legal history of the script, from some volume to the store
abbrev pub IsSomeHistory : State → Type 0
IsSomeHistory m = ∥ ((start : Volume) × IsHistory start m.script m.journal m.store) ∥₁

-- so many calls of the process are finished in the journal
abbrev pub AreFinished : State → ℕ → ℕ → Type 0
AreFinished m process count =
    (call : ℕ) → call < count →
    is_finished m.script m.journal (record { process = process; call = call }) ≡ true

-- it is the running call of its process, and all calls of the processes before that have ended
pub record IsFirstUnfinished (m : State) (at : At) : Type 0 where
  pub process : at.process < process_count m
  pub running_is : at ≡ running_at m at.process
  pub called : at.call < length (calls_of m.script at.process)
  pub earlier : (process : ℕ) → process < at.process →
      (progress_of m process).ended ≡ length (calls_of m.script process)

-- one turn more, as far as they are counted
abbrev pub turns_after : ℕ → ℕ
turns_after turns = min (turns + 1) (2 ^ 64 - 1)

-- the machine before its first turn
abbrev pub booted : Volume → Script → Progress
booted volume script = record { state = boot_state (start_store volume script) script; trace = []; turns = 0 }

-- the machine after one turn of an actor
abbrev pub stepped : Progress → ℕ → Progress
stepped p actor =
    record {
      state = after_turn p.state actor;
      trace = p.trace ++ event_of p.turns actor (answer_of p.state actor);
      turns = turns_after p.turns;
    }

-- the machine has run the script over the volume to the end: its trace is that of the course, its journal is one legal
-- history from the volume to its store, in order, and the trace shows the journal
pub record HasRun (volume : Volume) (script : Script) (p : Progress) : Type 0 where
  pub script_is : p.state.script ≡ script
  pub course : IsCourse (start_store volume script) script p.trace p.state
  pub history : IsHistory volume script p.state.journal p.state.store
  pub in_order : InOrder script p.state.journal
  pub visible_is : visible (boot_state (start_store volume script) script) p.trace ≡ p.state.journal

-- the volume, the journal and the trace that a machine leaves
pub record IsLeft (p : Progress) (run : Run) : Type 0 where
  pub volume : run.volume ≡ volume_in p.state.store
  pub journal : run.journal ≡ p.state.journal
  pub trace : run.trace ≡ p.trace
