-- The entries that turns add, and what is known of them.
use Rattle.std.specs.Prelude.{◌≡◌, false, Some}
use Rattle.bd_base.specs.declared.volume.Volume.{Volume}
use Rattle.bd_entry.specs.declared.entry.Entry.{Entry}
use Rattle.bd_entry.specs.Calls.{Place, at_of, is_ended_by}
use Rattle.bd_entry.specs.Laws.{IsNextOf}
use Rattle.bd_entry.specs.Store.{work_of}
use Rattle.bd_tables.specs.State.{TableState}
use Rattle.bd_turns.specs.declared.turn.Row.{Row}
use Rattle.bd_turns.specs.Engines as engines
use Rattle.bd_turns.specs.Engines.{Step, engine_step, invalidation_of}
use Rattle.bd_turns.specs.Processors as processors
use Rattle.bd_turns.specs.Processors.{next_action}
use Rattle.bd_turns.specs.State.{State, running}
use Rattle.bd_turns.specs.Turns.{posting_place}

-- a turn adds this entry at this place: one of the processor, of the device engine, or of the invalidation engine
pub data AddsAt (m : State) (p : Place) (e : Entry) : Type 0 where
  by_processor : (row : Row) → running m p.at.process ≡ Some p →
      next_action m p ≡ Some (processors.Adds row e) → AddsAt m p e
  by_engine : (step : Step) → running m p.at.process ≡ Some p → engine_step m p ≡ Some step →
      step.entry ≡ Some e → AddsAt m p e
  by_invalidation : (tables : TableState) → posting_place m ≡ Some p →
      invalidation_of m.tables m.posted ≡ Some (engines.Ends e tables) → AddsAt m p e

-- the entry is the next one of the journal, and legal there: it is of the running call of its process, which is not
-- finished
pub record IsAdded (v : Volume) (m : State) (p : Place) (e : Entry) : Type 0 where
  pub running_is : running m p.at.process ≡ Some p
  pub at_is : at_of e ≡ p.at
  pub next : IsNextOf v m.script m.journal m.store p.call e
  pub work_is : work_of m.store p.at.process ≡ p.before
  pub unfinished : is_ended_by p.call p.before ≡ false

-- so is each entry that a turn adds
abbrev pub EntriesAreNext : Volume → State → Type 0
EntriesAreNext v m = (p : Place) (e : Entry) → AddsAt m p e → IsAdded v m p e
