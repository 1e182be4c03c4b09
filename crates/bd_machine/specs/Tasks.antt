-- What the steps of a whole run ask for.
use Rattle.std.specs.Prelude.{◌≡◌, ℕ, ◌+◌, ◌<◌, ◌≤◌, List, length, replicate, take}
use Rattle.std.specs.List.{flat_map}
use Rattle.bd_base.specs.declared.limits.TheConstants.{TURNS}
use Rattle.bd_base.specs.declared.script.Item.{Item}
use Rattle.bd_base.specs.declared.script.Script.{Script}
use Rattle.bd_base.specs.declared.volume.Volume.{Volume}
use Rattle.bd_base.specs.Scripts.{IsWithinLimits}
use Rattle.bd_base.specs.Volumes.{IsSoundVolume}
use Rattle.bd_entry.specs.Store.{Store, start_store}
use Rattle.bd_machine.specs.Machine.{Progress}
use Rattle.bd_turns.specs.Course.{EndsAt, actor_at, events_to, scheduled_by, state_at}

-- what is run: a script, from this store on
pub record Task : Type 0 where
  pub start : Store
  pub script : Script

-- the store is that of a sound volume, and the script within the limits
pub record IsTask (t : Task) : Type 0 where
  pub volume : Volume
  pub sound : IsSoundVolume volume
  pub start_is : t.start ≡ start_store volume t.script
  pub limits : IsWithinLimits t.script

-- what a machine runs from this moment on
abbrev pub task_of : Progress → Task
task_of p = record { start = p.state.store; script = p.state.script }

-- the machine after so many turns
abbrev pub after_turns : Task → ℕ → Progress
after_turns t n =
    record { state = state_at t.start t.script n; trace = events_to t.start t.script n; turns = n }

-- the machine after the last turn
pub record IsAtEnd (t : Task) (p : Progress) : Type 0 where
  pub turns : ℕ
  pub ends : EndsAt t.start t.script turns
  pub is : p ≡ after_turns t turns

-- how many turns the lines of the schedule before this one have
abbrev pub turns_before : Script → ℕ → ℕ
turns_before script line = length (flat_map scheduled_by (take line script.schedule))

-- the actors of an item, one a turn
abbrev pub turns_of_item : Item → List ℕ
turns_of_item item = replicate item.turns item.actor

-- how many turns the items before this one have
abbrev pub turns_within : List Item → ℕ → ℕ
turns_within items number = length (flat_map turns_of_item (take number items))

-- the turns of an item: those of its actor that follow so many turns of the task
pub record ItemAt : Type 0 where
  pub task : Task
  pub turns : ℕ

pub record IsItemAt (g : ItemAt) (item : Item) : Type 0 where
  pub task : IsTask g.task
  pub scheduled : g.turns + item.turns ≤ TURNS
  pub actors : (j : ℕ) → j < item.turns → actor_at g.task.script (g.turns + j) ≡ item.actor
