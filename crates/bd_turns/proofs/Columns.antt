-- What each turn keeps, one column of what a machine has come to after another.
use Rattle.std.specs.Prelude.{ℕ}
use Rattle.bd_base.specs.declared.volume.Volume.{Volume}
use Rattle.bd_entry.specs.Laws.{IsHistory}
use Rattle.bd_turns.specs.Added.{EntriesAreNext}
use Rattle.bd_turns.specs.Reached.{IsActor, IsReached}
use Rattle.bd_turns.specs.Rest.{AreWithinTurns}
use Rattle.bd_turns.specs.Sound.{AreCallsSound, AreHoldsSound, AreTablesSound}
use Rattle.bd_turns.specs.State.{State}
use Rattle.bd_turns.specs.Turns.{after_turn}

-- each turn of any actor leaves it so
abbrev pub TurnsKeep : (Volume → State → Type 0) → Type 0
TurnsKeep Holds =
    (v : Volume) (m : State) (actor : ℕ) → IsReached v m → EntriesAreNext v m → IsActor m actor →
    Holds v (after_turn m actor)

-- it leaves the calls sound: they come one after the other, each ends with no command left, and the commands of the
-- running ones are of their pieces
abbrev pub TurnsKeepCalls : Type 0
TurnsKeepCalls = TurnsKeep (λ v next. AreCallsSound next)

-- the rights, the cells and the walks of the tables stay those of the store and of the commands
abbrev pub TurnsKeepTables : Type 0
TurnsKeepTables = TurnsKeep (λ v next. AreTablesSound next)

-- so does what is so of holds, of the rights that are revoked and of the posted requests
abbrev pub TurnsKeepHolds : Type 0
TurnsKeepHolds = TurnsKeep (λ v next. AreHoldsSound next)

-- and the journal is a history of the script, which leads to the store
abbrev pub TurnsKeepHistory : Type 0
TurnsKeepHistory = TurnsKeep (λ v next. IsHistory v next.script next.journal next.store)

-- and no call takes more turns than any call takes at most
abbrev pub TurnsKeepWithin : Type 0
TurnsKeepWithin = TurnsKeep (λ v next. AreWithinTurns next)
