-- What is asked of the machine for a command in hand, and what the journal may note of it.
use Rattle.std.proofs.Common.{◌≡◌, ◌↔◌, ℕ, ◌<◌, Bool, true, List, ◌++◌, map, length, Option, None, Some, sym, ap, ◌∙◌, subst}
use Rattle.std.specs.Prelude.{slice_index_or}
use Rattle.std.proofs.lemmas.Option.{same_Some}
use Rattle.bd_base.specs.declared.journal.Found.{Found}
use Rattle.bd_base.specs.declared.script.Script.{Script}
use Rattle.bd_entry.specs.declared.entry.Entry.TheVariants.{Missed}
use Rattle.bd_entry.specs.Calls.{Place, does_write}
use Rattle.bd_entry.specs.Refusals.{descriptor_of}
use Rattle.bd_entry.specs.RulesOfRights.{HasRights, MayMiss, ThePiece}
use Rattle.bd_entry.specs.Store.{Store}
use Rattle.bd_fs.specs.Files.{Files}
use Rattle.bd_kernel.specs.Disks.{files_on, table_on}
use Rattle.bd_kernel.specs.Holders.{Table}
use Rattle.bd_kernel.specs.Sights.{place_of, store_of}
use Rattle.bd_kernel.specs.Turns as kernel
use Rattle.bd_kernel.specs.Turns.{MayMissAt}
use Rattle.bd_machine.specs.declared.parts.Parts.{Parts}
use Rattle.bd_machine.specs.declared.process.Hand.{Hand}
use Rattle.bd_machine.specs.declared.process.Process.{Process}
use Rattle.bd_machine.specs.Engines.{IsInPhase, MayNoteAt, TakesStep, TookRowOf}
use Rattle.bd_machine.specs.Logs.{LogState, TellsSame}
use Rattle.bd_machine.specs.Shows.{completed_of, pieces_of_commands}
use Rattle.bd_machine.specs.Turns.{IsAt, Sight, process_in}
use Rattle.bd_machine.proofs.EngineFacts.{Working, working}
use Rattle.bd_machine.proofs.EngineTurns.{shows_log}
use Rattle.bd_machine.proofs.EngineWalks.{some_outstanding}
use Rattle.bd_machine.proofs.EntriesOfHolds.{store_is}
use Rattle.bd_machine.proofs.ShowingHands.{outstanding_shown, pieces_held}
use Rattle.bd_tables.specs.declared.sides.Tables as sides
use Rattle.bd_turns.specs.declared.turn.Row.{Row}
use Rattle.bd_turns.specs.State.{Completed, Phase, State, outstanding}

-- ---- the log

-- room in the log changes nothing of where an engine is
pub in_phase_log : {T M P : Type 0} {K : sides.Ghosts T P} (g : Sight) (x : Parts T M P) (q : ℕ) (phase : Phase) (l : LogState) →
    TellsSame x.log l → IsInPhase K g x q phase → IsInPhase K g (record x { log = l }) q phase
in_phase_log g x q phase l same w =
    record {
      at = record { shows = shows_log g.script x g.state l same w.at.shows; reached = w.at.reached; built = w.at.built };
      it = w.it;
      there = w.there;
      hand = w.hand;
      in_hand = w.in_hand;
      entered = w.entered;
    }

-- nor of the turn that is taken then
pub from_log : {T M P : Type 0} {K : sides.Ghosts T P} (script : Script) (x z : Parts T M P) (m : State) (q : ℕ) (row : Row) (l : LogState) →
    TellsSame x.log l → TookRowOf K script (record x { log = l }) z m q row → TookRowOf K script x z m q row
from_log script x z m q row l same took =
    record {
      shows = took.shows;
      answer = took.answer;
      events = took.events ∙ same.events;
      turns = took.turns ∙ same.turns;
    }

-- a process whose engine took its step may hold a file
pub holder_there : {T M P : Type 0} {K : sides.Ghosts T P} (g : Sight) (x y : Parts T M P) (q : ℕ) (row : Row) →
    TakesStep K g x y q row → q < length g.script.processes → q < length y.disk.held
holder_there g x y q row t inside = subst (λ (n : ℕ). q < n) (sym t.shows.holders) inside

-- ---- a command in hand

-- a process with a command in the hand of its engine has a running call that was begun
pub working_with : {T M P : Type 0} {K : sides.Ghosts T P} (g : Sight) (x : Parts T M P) (q : ℕ) (it : Process P) (hand : Hand) →
    IsAt K g.script x g.state → process_in x q ≡ Some it → it.hand ≡ Some hand → Working K g x q it
working_with g x q it hand at there in_hand =
    let is = at.shows.each q it there in
    let done : List ℕ = map (λ (done : Completed). done.piece) (map completed_of it.queue.completed) in
    working g x q it at there
    (λ none.
    some_outstanding done hand.command.piece (pieces_of_commands it.queue.submitted)
    (sym (ap (λ (h : Option Hand). done ++ pieces_held h ++ pieces_of_commands it.queue.submitted) in_hand)
    ∙ sym (outstanding_shown (slice_index_or x.disk.held q None) is.phase it) ∙ sym (ap outstanding is.progress) ∙ none))

-- what the kernel tells of a walk that missed is whether the journal may note it
pub may_note_is : {T M P : Type 0} {K : sides.Ghosts T P} (g : Sight) (x : Parts T M P) (q : ℕ) (it : Process P) (hand : Hand)
    (fs : Files) (table : Table) (c : kernel.Progress) (found : Found) (answer : Bool) →
    Working K g x q it → IsAt K g.script x g.state → it.call ≡ Some c → fs ≡ files_on x.disk → table ≡ table_on x.disk →
    MayMissAt fs table c hand.command.piece found answer → (answer ≡ true) ↔ MayNoteAt g.state q hand found
may_note_is {T} {M} {P} {K} g x q it hand fs table c found answer known at call_is files rows told =
    let m : State = g.state in
    let p : Place = known.place in
    let piece : ℕ = hand.command.piece in
    let same : known.call ≡ c = same_Some known.call c (sym known.call_is ∙ call_is) in
    let kept = known.kept in
    let on_disk : MayMissAt (files_on x.disk) (table_on x.disk) known.call piece found answer =
    subst (λ (d : kernel.Progress). MayMissAt (files_on x.disk) (table_on x.disk) d piece found answer) (sym same)
    (subst (λ (t : Table). MayMissAt (files_on x.disk) t c piece found answer) rows
    (subst (λ (f : Files). MayMissAt f table c piece found answer) files told)) in
    let place : place_of known.call.call known.call.process p.at.call p.before ≡ p =
    λ i. record { call = kept.call i; at = record { process = kept.process i; call = p.at.call }; before = p.before } in
    let Notes : Store → Place → Type 0 =
    λ s p. (answer ≡ true) ↔ ThePiece p piece (MayMiss s (does_write p.call) (descriptor_of s p) found) in
    let there : Notes m.store p =
    subst (λ (s : Store). Notes s p) (store_is x.disk m.store at.shows.disk)
    (subst (Notes (store_of (files_on x.disk) x.disk.rows m.store.uids m.store.bytes m.store.work)) place
    (on_disk m.store.uids m.store.bytes m.store.work p.at.call p.before kept.entries)) in (
      λ yes r runs.
          subst (λ (k : Place). HasRights m.store k (Missed k.at piece found)) (same_Some p r (sym known.running_is ∙ runs)) (there.0 yes),
      λ notes. there.1 (notes p known.running_is),
    )
