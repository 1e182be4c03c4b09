-- The journal and the trace as a machine keeps them.
use Rattle.std.specs.Prelude.{◌≡◌, ℕ, ◌<◌, List, ◌++◌, ◌∷◌, []}
use Rattle.bd_entry.specs.declared.entry.Entry.{Entry}
use Rattle.bd_turns.specs.declared.turn.Event.{Event}

-- the journal, the trace, how many turns were taken, and for how many entries and events more there is room
pub record LogState : Type 0 where
  pub entries : List Entry
  pub events : List Event
  pub turns : ℕ
  pub entry_room : ℕ
  pub event_room : ℕ

-- both tell the same
pub record TellsSame (old new : LogState) : Type 0 where
  pub entries : new.entries ≡ old.entries
  pub events : new.events ≡ old.events
  pub turns : new.turns ≡ old.turns

-- there is room for an entry and an event
pub record HasRoom (log : LogState) : Type 0 where
  pub entry : 0 < log.entry_room
  pub event : 0 < log.event_room

-- the entry was appended, and there is as much room for events
pub record AppendsEntry (old : LogState) (e : Entry) (new : LogState) : Type 0 where
  pub entries : new.entries ≡ old.entries ++ e ∷ []
  pub events : new.events ≡ old.events
  pub turns : new.turns ≡ old.turns
  pub room : new.event_room ≡ old.event_room

-- the event was appended
pub record AppendsEvent (old : LogState) (event : Event) (new : LogState) : Type 0 where
  pub entries : new.entries ≡ old.entries
  pub events : new.events ≡ old.events ++ event ∷ []
  pub turns : new.turns ≡ old.turns
