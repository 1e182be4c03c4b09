-- Each entry that a turn adds is the next one of the journal, and legal there.
use Rattle.std.proofs.Common.{⊎_elim}
use Rattle.bd_base.specs.declared.volume.Volume.{Volume}
use Rattle.bd_entry.specs.declared.entry.Entry.{Entry}
use Rattle.bd_entry.specs.Calls.{Place}
use Rattle.bd_turns.proofs.AddedByActs.{processor_adds}
use Rattle.bd_turns.proofs.LegalActs.{acts_add_legally}
use Rattle.bd_turns.proofs.LegalClears.{clears_add_legally}
use Rattle.bd_turns.proofs.LegalDetaches.{detaches_add_legally}
use Rattle.bd_turns.proofs.LegalMisses.{misses_add_legally}
use Rattle.bd_turns.proofs.LegalMoves.{moves_add_legally}
use Rattle.bd_turns.proofs.StepEntries.{step_adds}
use Rattle.bd_turns.specs.Added.{AddsAt, by_engine, by_invalidation, by_processor, IsAdded}
use Rattle.bd_turns.specs.Reached.{IsReached, TurnsAddLegally}
use Rattle.bd_turns.specs.State.{State}

added : (v : Volume) (m : State) (p : Place) (e : Entry) → IsReached v m → AddsAt m p e → IsAdded v m p e
added v m p e reached (by_processor row is acting) =
    ⊎_elim
    (λ act. acts_add_legally v m p e reached is act)
    (λ clear. clears_add_legally v m p e reached is clear)
    (processor_adds m p row e acting)
added v m p e reached (by_engine step is steps adds) =
    ⊎_elim
    (λ move. moves_add_legally v m p e reached is move)
    (λ miss. misses_add_legally v m p e reached is miss)
    (step_adds m p step e adds steps)
added v m p e reached (by_invalidation tables is ends) = detaches_add_legally v m p tables e reached is ends

pub turns_add_legally : TurnsAddLegally
turns_add_legally v m reached p e adds = added v m p e reached adds
