-- What a machine has come to at every moment, and the laws of its turns: each is the contract of a function of
-- src/turn_laws.rt.
use Rattle.std.specs.Prelude.{ℕ, ◌+◌, ◌*◌, ◌<◌}
use Rattle.bd_base.specs.declared.script.Script.{Script}
use Rattle.bd_base.specs.declared.volume.Volume.{Volume}
use Rattle.bd_base.specs.Scripts.{IsWithinLimits}
use Rattle.bd_base.specs.Volumes.{IsSoundVolume}
use Rattle.bd_entry.specs.Laws.{IsHistory}
use Rattle.bd_entry.specs.Store.{start_store}
use Rattle.bd_turns.specs.Added.{EntriesAreNext}
use Rattle.bd_turns.specs.Rest.{AreWithinTurns}
use Rattle.bd_turns.specs.Sound.{Sound}
use Rattle.bd_turns.specs.State.{State, boot_state}
use Rattle.bd_turns.specs.Turns.{after_turn, process_count}

-- the number is that of an actor
abbrev pub IsActor : State → ℕ → Type 0
IsActor m actor = actor < 2 * process_count m + 1

-- the journal is a history of the script from this volume that leads to the store, the state is sound, and no call took
-- more turns than it may
pub record IsReached (v : Volume) (m : State) : Type 0 where
  pub history : IsHistory v m.script m.journal m.store
  pub sound : Sound m
  pub within : AreWithinTurns m

-- a machine begins so
abbrev pub BootIsReached : Type 0
BootIsReached =
    (v : Volume) (script : Script) → IsSoundVolume v → IsWithinLimits script →
    IsReached v (boot_state (start_store v script) script)

-- each entry that a turn adds is the next one of the journal, and legal there
abbrev pub TurnsAddLegally : Type 0
TurnsAddLegally = (v : Volume) (m : State) → IsReached v m → EntriesAreNext v m

-- and each turn of any actor leaves it so
abbrev pub TurnsKeepIt : Type 0
TurnsKeepIt = (v : Volume) (m : State) (actor : ℕ) → IsReached v m → IsActor m actor → IsReached v (after_turn m actor)
