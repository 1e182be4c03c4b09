-- Whole runs: by the schedule, and then in rounds.
use Rattle.std.specs.Prelude.{◌≡◌, ℕ, suc, zero, ◌+◌, ◌-◌, ◌*◌, ◌%◌, ◌<◌, ◌≤◌, nat_lt, cond, true, false, List, [], ◌∷◌, ◌++◌, length, replicate, slice_index}
use Rattle.std.specs.List.{flat_map}
use Rattle.bd_base.specs.declared.script.Item.{Item}
use Rattle.bd_base.specs.declared.script.ScheduleLine.{ScheduleLine}
use Rattle.bd_base.specs.declared.script.Script.{Script}
use Rattle.bd_entry.specs.declared.entry.Entry.{Entry}
use Rattle.bd_entry.specs.Store.{Store}
use Rattle.bd_turns.specs.declared.turn.Event.{Event}
use Rattle.bd_turns.specs.declared.turn.Turn.{Turn}
use Rattle.bd_turns.specs.declared.turn.Turn.TheVariants.{Did, Idle, Waits}
use Rattle.bd_turns.specs.State.{State, boot_state}
use Rattle.bd_turns.specs.Turns.{after_turn, all_ended, answer_of, visible_of}

-- the event of a turn of this number with this answer
abbrev pub event_of : ℕ → ℕ → Turn → List Event
event_of turn actor (Did row) = record { turn = turn; actor = actor; row = row } ∷ []
event_of turn actor Idle = []
event_of turn actor (Waits wait) = []

-- the entries that the turns of these events add, from this state on
abbrev pub visible : State → List Event → List Entry
visible m [] = []
visible m (event ∷ events) = visible_of m event.actor ++ visible (after_turn m event.actor) events

-- the state after the turns of these events
abbrev pub after_events : State → List Event → State
after_events m [] = m
after_events m (event ∷ events) = after_events (after_turn m event.actor) events

-- the actors of a line of the schedule, one a turn
abbrev pub scheduled_by : ScheduleLine → List ℕ
scheduled_by line = flat_map (λ (item : Item). replicate item.turns item.actor) line.items

-- the actors of the schedule, one a turn
abbrev pub scheduled : Script → List ℕ
scheduled script = flat_map scheduled_by script.schedule

-- how many actors a script has
abbrev pub actor_count : Script → ℕ
actor_count script = 2 * length script.processes + 1

-- who takes turn number n: by the schedule, and then in rounds
abbrev pub actor_at : Script → ℕ → ℕ
actor_at script n =
    let turns = length (scheduled script) in
    cond (nat_lt n turns) (slice_index (scheduled script) n) ((n - turns) % actor_count script)

-- the state after the first n turns
abbrev pub state_at : Store → Script → ℕ → State
state_at start script zero = boot_state start script
state_at start script (suc n) = after_turn (state_at start script n) (actor_at script n)

-- the event of turn number n, where it has an effect
abbrev pub event_at : Store → Script → ℕ → List Event
event_at start script n =
    event_of n (actor_at script n) (answer_of (state_at start script n) (actor_at script n))

-- the events of the first n turns
abbrev pub events_to : Store → Script → ℕ → List Event
events_to start script zero = []
events_to start script (suc n) = events_to start script n ++ event_at start script n

-- the run ends before turn number n: the first after the schedule at which all calls have ended
pub record EndsAt (start : Store) (script : Script) (n : ℕ) : Type 0 where
  pub after_schedule : length (scheduled script) ≤ n
  pub ended : all_ended (state_at start script n) ≡ true
  pub not_before : (k : ℕ) → length (scheduled script) ≤ k → k < n → all_ended (state_at start script k) ≡ false

-- the whole run from this store by this script has this trace and leads to this state
pub record IsCourse (start : Store) (script : Script) (trace : List Event) (m : State) : Type 0 where
  pub turns : ℕ
  pub ends : EndsAt start script turns
  pub trace_is : trace ≡ events_to start script turns
  pub state_is : m ≡ state_at start script turns
