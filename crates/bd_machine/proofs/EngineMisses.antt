-- The step of an engine that notes what its walk found.
use Rattle.std.proofs.Common.{◌≡◌, ℕ, ◌<◌, true, Some, refl, sym, ap, ◌∙◌, subst}
use Rattle.std.specs.Prelude.{IsSome}
use Rattle.std.specs.Option.{option_map}
use Rattle.std.proofs.lemmas.Bool.{eq-eqb}
use Rattle.std.proofs.lemmas.Option.{same_Some}
use Rattle.bd_base.specs.declared.journal.At.{At}
use Rattle.bd_base.specs.declared.journal.Found.{Found}
use Rattle.bd_base.specs.declared.limits.TheConstants.{PIECES}
use Rattle.bd_base.specs.declared.script.Script.{Script}
use Rattle.bd_entry.specs.declared.entry.Entry.{Entry}
use Rattle.bd_entry.specs.declared.entry.Entry.TheVariants as entries
use Rattle.bd_entry.specs.Calls.{Place, call_at, is_miss_of}
use Rattle.bd_entry.specs.Effects.{after_change}
use Rattle.bd_entry.specs.RulesOfRights.{HasRights}
use Rattle.bd_entry.proofs.RangesOfPieces.{piece_of_call-is}
use Rattle.bd_kernel.specs.Disks.{DiskState, IsDiskOf}
use Rattle.bd_kernel.specs.Marks.{HasPieceOf}
use Rattle.bd_machine.specs.declared.parts.Parts.{Parts}
use Rattle.bd_machine.specs.declared.process.Hand.{Hand}
use Rattle.bd_machine.specs.declared.process.Process.{Process}
use Rattle.bd_machine.specs.Engines.{Becomes, HasCommand, IsInPhase, IsMissInHand, MayNoteAt, TakesStep, with_answer}
use Rattle.bd_machine.specs.Logs.{AppendsEntry, LogState}
use Rattle.bd_machine.specs.Shows.{in_hand_of}
use Rattle.bd_machine.specs.Turns.{HasBegun, NotesEntry, Sight, process_in}
use Rattle.bd_machine.proofs.EngineFacts.{Working}
use Rattle.bd_machine.proofs.EngineNotes.{Noted, noted_call, notes_on}
use Rattle.bd_machine.proofs.EngineWalks.{facts, goes, hand_is, in_hand_there, running_there, walk_for}
use Rattle.bd_queue_pair.specs.declared.command.DoneKind.TheVariants as kinds
use Rattle.bd_tables.specs.State.{found_of, walk_at}
use Rattle.bd_turns.specs.declared.turn.Row.TheVariants as rows
use Rattle.bd_turns.specs.Engines.{engine_step, miss, notes}
use Rattle.bd_turns.specs.State.{InHand, Missing, Phase, State, progress_of, running}
use Rattle.bd_turns.proofs.RunningPlaces.{runs_at}
use Rattle.bd_tables.specs.declared.sides.Tables as sides

-- ---- what is asked of the code

-- the running call of a working engine was begun
pub has_begun : {T M P : Type 0} {K : sides.Ghosts T P} (g : Sight) (x : Parts T M P) (q : ℕ) (phase : Phase) (w : IsInPhase K g x q phase) → HasBegun x q
has_begun g x q phase w =
    record { it = w.it; there = w.there; begun = subst IsSome (sym (facts g x q phase w).call_is) refl }

-- the command is in hand still after an entry was noted
pub command_noted : {T M P : Type 0} {K : sides.Ghosts T P} (g : Sight) (x : Parts T M P) (q : ℕ) (phase : Phase) (w : IsInPhase K g x q phase)
    (n : Parts T M P) (changed : DiskState)
    (l : LogState) (e : Entry) → NotesEntry (record x { disk = changed }) n q e → HasCommand (record n { log = l }) q
command_noted g x q phase w n changed l e noted =
    let known = facts g x q phase w in
    let mine = noted.mine w.it known.call w.there known.call_is in
    record { it = record w.it { call = Some mine.0 }; there = mine.1; some = subst IsSome (sym w.in_hand) refl }

-- its command is of a piece that a call may have
pub piece_fits : {T M P : Type 0} {K : sides.Ghosts T P} (g : Sight) (x : Parts T M P) (q : ℕ) (phase : Phase) (w : IsInPhase K g x q phase) →
    w.hand.command.piece < PIECES
piece_fits g x q phase w =
    let known = facts g x q phase w in
    let is = (hand_is g x q phase w).command in
    (piece_of_call-is known.place.call w.hand.command.piece is.piece known.within is.piece_is).number_is

-- the place and the hand are those of the state
pub same_hand : {T M P : Type 0} {K : sides.Ghosts T P} (g : Sight) (x : Parts T M P) (q : ℕ) (phase : Phase) (w : IsInPhase K g x q phase) (hand : InHand) →
    (progress_of g.state q).hand ≡ Some hand → hand ≡ in_hand_of w.hand phase
same_hand g x q phase w hand is = same_Some hand (in_hand_of w.hand phase) (sym is ∙ w.entered)

-- and the place is that of the running call
pub same_place : {T M P : Type 0} {K : sides.Ghosts T P} (g : Sight) (x : Parts T M P) (q : ℕ) (phase : Phase) (w : IsInPhase K g x q phase) (place : Place) →
    running g.state q ≡ Some place → place ≡ (facts g x q phase w).place
same_place g x q phase w place is = same_Some place (facts g x q phase w).place (sym is ∙ (facts g x q phase w).running_is)

-- the script has that call
pub call_there : {T M P : Type 0} {K : sides.Ghosts T P} (g : Sight) (x : Parts T M P) (q : ℕ) (phase : Phase) (w : IsInPhase K g x q phase) → (at : At) →
    at ≡ record { process = q; call = w.it.ended } → call_at g.script at ≡ Some (facts g x q phase w).place.call
call_there g x q phase w at is =
    let known = facts g x q phase w in
    let runs = runs_at g.state known.place.at.process known.place (running_there g x q phase w) in
    ap (λ (script : Script). call_at script at) (sym w.at.shows.script_is) ∙ ap (call_at g.state.script) (is ∙ sym known.at_is) ∙ runs.called

module _ {T M P : Type 0} {K : sides.Ghosts T P} (g : Sight) (x : Parts T M P) (q : ℕ) (w : IsInPhase K g x q Missing) where
  abbrev known : Working K g x q w.it
  known = facts g x q Missing w

  abbrev m : State
  m = g.state

  -- the walk was refused
  pub found_there : (found : Found) × (found_of (walk_at m.tables.walks q) ≡ Some found)
  found_there =
      let walk = (walk_for g x q Missing w).walk in
      (walk.0, ap found_of (ap (λ (n : ℕ). walk_at m.tables.walks n) (sym known.process_is) ∙ walk.1))

  -- so it may be noted
  pub may_note_found : (found : Found) → found_of (walk_at m.tables.walks q) ≡ Some found → MayNoteAt m q w.hand found
  may_note_found found is p runs =
      let walk_is = walk_for g x q Missing w in
      let same : walk_is.walk.0 ≡ found =
      same_Some walk_is.walk.0 found
      (sym (ap found_of (ap (λ (n : ℕ). walk_at m.tables.walks n) (sym known.process_is) ∙ walk_is.walk.1)) ∙ is) in
      subst (λ (f : Found). HasRights m.store p (entries.Missed p.at w.hand.command.piece f)) same
      (subst (λ (k : Place). HasRights m.store k (entries.Missed k.at w.hand.command.piece walk_is.walk.0))
      (same_Some known.place p (sym known.running_is ∙ runs))
      (known.sound.tables_are.notable known.place (in_hand_of w.hand Missing) walk_is.request walk_is.walk.0 (running_there g x q Missing w)
      (in_hand_there g x q Missing w) refl walk_is.walk.1))

  pub misses : (found : Found) (entry : Entry) (at : At) (piece : ℕ) → found_of (walk_at m.tables.walks q) ≡ Some found →
      at ≡ record { process = q; call = w.it.ended } → piece ≡ w.hand.command.piece → entry ≡ entries.Missed at piece found →
      IsMissInHand m q found entry
  misses found entry at piece found_is at_is piece_is entry_is =
      record {
        place = known.place;
        running_is = known.running_is;
        hand = in_hand_of w.hand Missing;
        in_hand = w.entered;
        phase_is = refl;
        found_is = found_is;
        entry_is =
            entry_is ∙ ap (λ (a : At). entries.Missed a piece found) (at_is ∙ sym known.at_is)
            ∙ ap (λ (n : ℕ). entries.Missed known.place.at n found) piece_is;
      }

  module _ (found : Found) (entry : Entry) (is : IsMissInHand m q found entry) where
    -- the entry is the one of the step
    pub entry_same : entry ≡ entries.Missed known.place.at w.hand.command.piece found
    entry_same =
        is.entry_is ∙ ap (λ (p : Place). entries.Missed p.at is.hand.piece found) (same_place g x q Missing w is.place is.running_is)
        ∙ ap (λ (h : InHand). entries.Missed known.place.at h.piece found) (same_hand g x q Missing w is.hand is.in_hand)

    pub miss_piece : HasPieceOf entry
    miss_piece = subst HasPieceOf (sym entry_same) (piece_fits g x q Missing w)

    stepping : engine_step m known.place
        ≡ Some (notes rows.Missed m.tables (progress_of m known.place.at.process) w.hand.command.piece entry)
    stepping =
        goes g x q Missing w
        ∙ ap (option_map (miss m.tables known.place (progress_of m known.place.at.process) w.hand.command.piece))
        (ap (λ (n : ℕ). found_of (walk_at m.tables.walks n)) known.process_is ∙ is.found_is)
        ∙ ap (λ (e : Entry). Some (notes rows.Missed m.tables (progress_of m known.place.at.process) w.hand.command.piece e)) (sym entry_same)

    miss_of_piece : true ≡ is_miss_of w.hand.command.piece entry
    miss_of_piece =
        sym (ap (is_miss_of w.hand.command.piece) entry_same ∙ eq-eqb w.hand.command.piece w.hand.command.piece refl)

    pub misses_on : (n z : Parts T M P) (l : LogState) → NotesEntry x n q entry → AppendsEntry n.log entry l →
        ((y : Process P) (hand : Hand) → process_in n q ≡ Some y → y.hand ≡ Some hand →
        Becomes (record n { log = l }) z q n.tables (with_answer y hand (kinds.Missed found))) → TakesStep K g x z q rows.Missed
    misses_on n z l noted log answered =
        let s : Noted x q m entry x.disk n l = record {
          changed_is = subst (λ (e : Entry). IsDiskOf x.disk (after_change m.store e)) (sym entry_same) w.at.shows.disk;
          held = refl;
          noted = noted;
          log = log;
        } in
        let call = noted_call g x q Missing w refl refl rows.Missed entry stepping x.disk n l s in
        notes_on g x q Missing w refl refl rows.Missed entry stepping x.disk n l s z (kinds.Missed found) miss_of_piece
        (answered (record w.it { call = Some call.0 }) w.hand call.1 w.in_hand)
