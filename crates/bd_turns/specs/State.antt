-- The state of the abstract machine.
use Rattle.std.specs.Prelude.{ℕ, Bool, false, ◌&&◌, nat_eq, List, [], ◌∷◌, ◌++◌, map, position, slice_index_or, slice_set, replicate, Option, None, Some}
use Rattle.std.specs.Option.{option_map, option_map_or}
use Rattle.std.specs.FinMap as fin
use Rattle.bd_base.specs.declared.journal.At.{At}
use Rattle.bd_base.specs.declared.key.Key.{Key}
use Rattle.bd_base.specs.declared.script.Call.{Call}
use Rattle.bd_base.specs.declared.script.Process.{Process}
use Rattle.bd_base.specs.declared.script.Script.{Script}
use Rattle.bd_entry.specs.declared.entry.Entry.{Entry}
use Rattle.bd_entry.specs.Actions.{is_none_of}
use Rattle.bd_entry.specs.Calls.{Place, call_at, entries_of, is_ended_by}
use Rattle.bd_entry.specs.Store.{Store}
use Rattle.bd_lines.specs.declared.lines.TheConstants.{LINES}
use Rattle.bd_tables.specs.declared.state.Walk.TheVariants as walks
use Rattle.bd_tables.specs.State.{TableState}

-- a command that was completed and not polled yet: its piece, and whether its walk missed
pub record Completed : Type 0 where
  pub piece : ℕ
  pub missed : Bool

-- what an engine does next with the command in its hand
pub data Phase : Type 0 where
  Looking : Phase
  Reading : Phase
  Filling : Phase
  Moving : Phase
  Missing : Phase
  Retiring : Phase
  Completing : Phase

-- the command in an engine's hand: its piece, and what is done next with it
pub record InHand : Type 0 where
  pub piece : ℕ
  pub phase : Phase

-- how far a process is: how many of its calls have ended, how many effective turns were taken in the name of the
-- running one, which file it holds, if any, and where its commands are, by their pieces: submitted and not taken, in
-- its engine's hand, completed and not polled
pub record Progress : Type 0 where
  pub ended : ℕ
  pub used : ℕ
  pub held : Option ℕ
  pub submitted : List ℕ
  pub hand : Option InHand
  pub completed : List Completed

-- a posted invalidation: the key, and the call that posted it
pub record Posted : Type 0 where
  pub key : Key
  pub by : At

-- a state: the script, which no turn changes, the plain store, the journal so far, the translation tables (rights,
-- cells, cache lines and walks), how far each process is, and the posted invalidations in order
pub record State : Type 0 where
  pub script : Script
  pub store : Store
  pub journal : List Entry
  pub tables : TableState
  pub processes : List Progress
  pub posted : List Posted

-- ---- before the first turn

abbrev pub new_progress : Progress
new_progress = record { ended = 0; used = 0; held = None; submitted = []; hand = None; completed = [] }

-- nothing is attached, cached or walked
abbrev pub new_tables : Script → TableState
new_tables script =
    record {
      rights = fin.empty;
      cells = fin.empty;
      lines = replicate LINES None;
      walks = map (λ (p : Process). walks.Idle) script.processes;
    }

-- the state before the first turn, from this store on
abbrev pub boot_state : Store → Script → State
boot_state start script =
    record {
      script = script;
      store = start;
      journal = [];
      tables = new_tables script;
      processes = map (λ (p : Process). new_progress) script.processes;
      posted = [];
    }

-- ---- the running call of a process

-- how far the process is
abbrev pub progress_of : State → ℕ → Progress
progress_of m process = slice_index_or m.processes process new_progress

-- the state with this progress of a process
abbrev pub with_progress : State → ℕ → Progress → State
with_progress m process progress = record m { processes = slice_set m.processes process progress }

-- the process's first call that has not ended
abbrev pub running_at : State → ℕ → At
running_at m process = record { process = process; call = (progress_of m process).ended }

-- the place of the next entry of a call of this number: that of the journal's entries of it
abbrev pub place_of : State → At → Call → Place
place_of m at call = record { call = call; at = at; before = entries_of at m.journal }

-- the place of the process's running call, None where all its calls have ended
abbrev pub running : State → ℕ → Option Place
running m process = option_map (place_of m (running_at m process)) (call_at m.script (running_at m process))

-- the piece in the hand of the process's engine, if any
abbrev pub pieces_in_hand : Option InHand → List ℕ
pieces_in_hand None = []
pieces_in_hand (Some hand) = hand.piece ∷ []

-- the pieces of commands that are not polled yet, in the order in which they were submitted
abbrev pub outstanding : Progress → List ℕ
outstanding progress =
    map (λ (done : Completed). done.piece) progress.completed ++ pieces_in_hand progress.hand ++ progress.submitted

-- whether a call with these entries has ended: they end it, and no command of it is outstanding
abbrev pub has_ended : Call → List Entry → Progress → Bool
has_ended call entries progress = is_ended_by call entries && is_none_of (outstanding progress)

-- ---- holds

-- whether the process holds the file
abbrev pub does_hold : ℕ → Progress → Bool
does_hold file progress = option_map_or (nat_eq file) progress.held false

-- the process that holds a file, if any does
abbrev pub holder_of : State → ℕ → Option ℕ
holder_of m file = position (does_hold file) m.processes
