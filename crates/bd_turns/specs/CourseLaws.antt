-- Laws of whole runs: each is the contract of a function of src/course_laws.rt.
use Rattle.std.specs.Prelude.{◌≡◌, ℕ, ◌+◌, ◌*◌, ◌<◌, ◌≤◌, true, length}
use Rattle.bd_base.specs.declared.limits.TheConstants.{CALLS, PROCESSES, TURNS}
use Rattle.bd_base.specs.declared.script.Script.{Script}
use Rattle.bd_base.specs.declared.volume.Volume.{Volume}
use Rattle.bd_base.specs.Scripts.{IsWithinLimits}
use Rattle.bd_base.specs.Volumes.{IsSoundVolume}
use Rattle.bd_entry.specs.History.{InOrder}
use Rattle.bd_entry.specs.Store.{Store, start_store}
use Rattle.bd_turns.specs.Course.{EndsAt, actor_at, actor_count, after_events, events_to, scheduled, state_at, visible}
use Rattle.bd_turns.specs.Reached.{IsReached}
use Rattle.bd_turns.specs.State.{State, boot_state}
use Rattle.bd_turns.specs.Turns.{all_ended, rest_of, turns_per_call}

-- each turn of a run is one of the script's actors
abbrev pub TurnsAreOfActors : Type 0
TurnsAreOfActors = (script : Script) (n : ℕ) → IsWithinLimits script → actor_at script n < actor_count script

-- no turn of a run changes the script
abbrev pub RunsKeepScripts : Type 0
RunsKeepScripts = (start : Store) (script : Script) (n : ℕ) → (state_at start script n).script ≡ script

-- a run comes to states alone that a machine can come to
abbrev pub RunsAreReached : Type 0
RunsAreReached =
    (v : Volume) (script : Script) (n : ℕ) → IsSoundVolume v → IsWithinLimits script →
    IsReached v (state_at (start_store v script) script n)

-- the events of the first turns lead to the state after them
abbrev pub EventsLeadThere : Type 0
EventsLeadThere =
    (start : Store) (script : Script) (n : ℕ) →
    after_events (boot_state start script) (events_to start script n) ≡ state_at start script n

-- and show the journal there
abbrev pub EventsShowJournals : Type 0
EventsShowJournals =
    (start : Store) (script : Script) (n : ℕ) →
    visible (boot_state start script) (events_to start script n) ≡ (state_at start script n).journal

-- before this turn a run ends at the latest: after the schedule it takes a round for each effective turn that is left
abbrev pub latest_end : Store → Script → ℕ
latest_end start script =
    let turns = length (scheduled script) in
    turns + rest_of (state_at start script turns) * actor_count script

-- the end of a run
pub record RunEnd (start : Store) (script : Script) : Type 0 where
  pub turns : ℕ
  pub ends : EndsAt start script turns
  pub bound : turns ≤ latest_end start script

-- each run ends
abbrev pub RunsEnd : Type 0
RunsEnd =
    (v : Volume) (script : Script) → IsSoundVolume v → IsWithinLimits script → RunEnd (start_store v script) script

-- no run takes more turns than this: those of the longest schedule, and a round for each effective turn of the most
-- calls
abbrev pub longest_run : ℕ
longest_run = TURNS + turns_per_call * (PROCESSES * CALLS) * (2 * PROCESSES + 1)

-- each run ends by then
abbrev pub RunsAreShort : Type 0
RunsAreShort =
    (start : Store) (script : Script) → IsWithinLimits script → latest_end start script ≤ longest_run

-- where all calls have ended the journal is in order
abbrev pub EndsAreInOrder : Type 0
EndsAreInOrder = (v : Volume) (m : State) → IsReached v m → all_ended m ≡ true → InOrder m.script m.journal
