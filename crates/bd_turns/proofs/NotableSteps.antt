-- What a walk was just refused for may be noted: it entered its key, or read an entry, in this step.
use Rattle.std.proofs.Common.{◌≡◌, ℕ, ◌<◌, nat_le, cond, Bool, true, false, length, set, Option, None, Some, refl, sym, ap, ◌∙◌, subst}
use Rattle.std.specs.List.{list_any}
use Rattle.std.specs.Option.{option_and_then}
use Rattle.std.specs.FinMap as fin
use Rattle.std.proofs.lemmas.Bool.{false≢true}
use Rattle.std.proofs.lemmas.Option.{none-some, same_Some}
use Rattle.bd_base.specs.declared.journal.Found.{Found}
use Rattle.bd_base.specs.declared.journal.Found.TheVariants.{NoEntry, Beyond}
use Rattle.bd_base.specs.declared.key.Cell.{Cell}
use Rattle.bd_base.specs.declared.volume.Volume.{Volume}
use Rattle.bd_base.specs.Pieces.{Piece}
use Rattle.bd_base.specs.Scripts.{IsCall}
use Rattle.bd_entry.specs.declared.entry.Entry.TheVariants.{Missed}
use Rattle.bd_entry.specs.Calls.{Place, does_write, piece_of_call}
use Rattle.bd_entry.specs.RulesOfRights.{HasRights, MayMiss}
use Rattle.bd_entry.specs.Store.{Descriptor, Store, Valid, attaches_by, descriptor_at, work_of}
use Rattle.bd_entry.proofs.CallPieces.{piece_of_call-in_block}
use Rattle.bd_tables.specs.declared.request.Request.{Request}
use Rattle.bd_tables.specs.declared.state.Right.{Right}
use Rattle.bd_tables.specs.declared.state.Walk.TheVariants.{Entered, Refused, Translated}
use Rattle.bd_tables.specs.Effects.{entered_walk, read_walk}
use Rattle.bd_tables.specs.Sound.{Allows, OnRight}
use Rattle.bd_tables.specs.State.{completion_of, found_entering, found_reading, lookup, walk_at}
use Rattle.bd_turns.specs.Engines.{Step, phase_looked, request_for, request_of_piece}
use Rattle.bd_turns.specs.Sound.{AreLookupsOf, IsWalkFor, cell_of_block}
use Rattle.bd_turns.specs.State.{InHand, Phase, Looking, Reading, Filling, Moving, Missing, Retiring, Completing, State, progress_of}
use Rattle.bd_turns.specs.Turns.{after_step}
use Rattle.bd_turns.proofs.EngineSteps.{IsStep, enters, looks, reads, fills, moves, misses, retires, completes}
use Rattle.bd_turns.proofs.FilesOfRights.{of_right}
use Rattle.bd_turns.proofs.FindsOfWalks.{enter_finds, read_finds}
use Rattle.bd_turns.proofs.HandsOfSteps.{walk_here}
use Rattle.bd_turns.proofs.TablesOfEngines.{is_refused, same_found}
use Rattle.bd_turns.proofs.TablesOfEntries.{AreTablesOf}
use Rattle.bd_turns.proofs.TablesOfSteps.{IsRequest, allowed_at, is_request, request_process, walk_of}

-- ---- refused walks

entered_found : (request other : Request) (found : Option Found) (finding : Found) → entered_walk request found ≡ Refused other finding → found ≡ Some finding
entered_found request other None finding is = absurd (false≢true (ap is_refused is))
entered_found request other (Some f) finding is = ap Some (same_found request other f finding is)

read_found : (request other : Request) (cell : Option Cell) (finding : Found) → read_walk request cell ≡ Refused other finding →
    found_reading request.hi cell ≡ Some finding
read_found request other None finding is = ap Some (same_found request other NoEntry finding is)
read_found request other (Some cell) finding is = by (nat_le request.hi cell.limit) is
  where
    by : (b : Bool) → cond b (Translated request (completion_of request cell)) (Refused request (Beyond cell.limit)) ≡ Refused other finding →
        cond b None (Some (Beyond cell.limit)) ≡ Some finding
    by true is = absurd (false≢true (ap is_refused is))
    by false is = ap Some (same_found request other (Beyond cell.limit) finding is)

-- whether the phase is that of an engine that is to note its miss
is_missing : Phase → Bool
is_missing Looking = false
is_missing Reading = false
is_missing Filling = false
is_missing Moving = false
is_missing Missing = true
is_missing Retiring = false
is_missing Completing = false

-- an engine with another phase notes nothing
other_phase : (number : ℕ) (phase : Phase) (hand : InHand) (Result : Type 0) → is_missing phase ≡ false →
    Some (record { piece = number; phase = phase }) ≡ Some hand → hand.phase ≡ Missing → Result
unfolding is_missing
other_phase number phase hand Result not_so is missing =
    let phase_is : phase ≡ Missing = ap (λ (h : InHand). h.phase) (same_Some (record { piece = number; phase = phase }) hand is) ∙ missing in
    absurd (false≢true (sym not_so ∙ ap is_missing phase_is))

looked_phase : (cell : Option Cell) → is_missing (phase_looked cell) ≡ false
unfolding is_missing
looked_phase None = refl
looked_phase (Some cell) = refl

-- ---- what holds as a step notes

-- what is known of the state before the step
pub record Noting (v : Volume) (m : State) (p : Place) : Type 0 where
  pub tables : AreTablesOf m.store m.tables
  pub lookups : AreLookupsOf m
  pub valid : Valid m.store
  pub within : IsCall p.call
  pub there : p.at.process < length m.tables.walks
  pub hands : (hand : InHand) → (progress_of m p.at.process).hand ≡ Some hand → IsWalkFor m p hand
  pub fresh : (number fd : ℕ) (piece : Piece) → piece_of_call p.call number ≡ Some piece →
      list_any (attaches_by fd) (work_of m.store p.at.process) ≡ false

-- the rule of rights for the miss of a piece
noted : (s : Store) (p : Place) (number : ℕ) (request : Request) (found : Found) → (of : IsRequest p number request) →
    MayMiss s (does_write p.call) (descriptor_at s p.at.process of.fd) found of.piece → HasRights s p (Missed p.at number found)
noted s p number request found of may = (
  of.piece,
  of.piece_is,
  subst (λ (slot : Option Descriptor). MayMiss s (does_write p.call) slot found of.piece)
      (sym (ap (option_and_then (descriptor_at s p.at.process)) of.fd_is)) may,
)

note_entering : (v : Volume) (m : State) (p : Place) (number : ℕ) (request : Request) (found : Found) → Noting v m p →
    request_of_piece p number ≡ Some request → found_entering (fin.get m.tables.rights request.key) request.write ≡ Some found →
    HasRights m.store p (Missed p.at number found)
note_entering v m p number request found noting is finds =
    let of = is_request p number request is in
    let r = request_for p of.fd of.piece in
    let finds_r : found_entering (fin.get m.tables.rights r.key) r.write ≡ Some found =
    ap (λ (x : Request). found_entering (fin.get m.tables.rights x.key) x.write) of.request_is ∙ finds in
    noted m.store p number request found of
    (enter_finds m.store r.key (does_write p.call) of.piece (fin.get m.tables.rights r.key) (descriptor_at m.store p.at.process of.fd) found refl
    (noting.tables.fit r.key) finds_r)

note_reading : (v : Volume) (m : State) (p : Place) (number : ℕ) (request : Request) (found : Found) → Noting v m p →
    request_of_piece p number ≡ Some request → walk_at m.tables.walks p.at.process ≡ Entered request →
    found_reading request.hi (lookup m.tables request.key request.index) ≡ Some found → HasRights m.store p (Missed p.at number found)
note_reading v m p number request found noting is entered finds =
    by (fin.get m.tables.rights r.key) refl allowed
  where
    of : IsRequest p number request
    of = is_request p number request is

    r : Request
    r = request_for p of.fd of.piece

    finds_r : found_reading r.hi (lookup m.tables r.key r.index) ≡ Some found
    finds_r = ap (λ (x : Request). found_reading x.hi (lookup m.tables x.key x.index)) of.request_is ∙ finds

    allowed : OnRight (Allows r) (fin.get m.tables.rights r.key)
    allowed = allowed_at m.tables noting.tables.sound p.at.process r (entered ∙ ap Entered (sym of.request_is))

    by : (right : Option Right) → fin.get m.tables.rights r.key ≡ right → OnRight (Allows r) right → HasRights m.store p (Missed p.at number found)
    by None none on = absurd on
    by (Some right) there on =
        let d = of_right m.tables.rights m.store noting.tables.fit r.key right there in
        let cell : lookup m.tables r.key r.index ≡ cell_of_block m.store right.file of.piece.index =
        noting.lookups r.key right r.index there refl in
        noted m.store p number request found of
        (subst (λ (slot : Option Descriptor). MayMiss m.store (does_write p.call) slot found of.piece) (sym d.there)
        (read_finds m.store p.at.process of.fd of.piece (does_write p.call) right d.d found
        (record {
          valid = noting.valid;
          there = d.there;
          is_right = d.is_right;
          allowed = on.writable;
          fresh = noting.fresh number of.fd of.piece of.piece_is;
          in_block = (piece_of_call-in_block p.call number of.piece noting.within of.piece_is).within;
        })
        (ap (found_reading r.hi) (sym cell) ∙ finds_r)))

-- a step that leads to the noting of a miss leaves the store, and the miss may be noted
pub record MayNoteNow (m : State) (p : Place) (step : Step) (number : ℕ) (found : Found) : Type 0 where
  pub may : HasRights m.store p (Missed p.at number found)
  pub store : (after_step m p step).store ≡ m.store

pub step_notes : (v : Volume) (m : State) (p : Place) (step : Step) → IsStep m p step → Noting v m p → (hand : InHand) →
    step.progress.hand ≡ Some hand → hand.phase ≡ Missing → (request : Request) (found : Found) →
    walk_at step.tables.walks p.at.process ≡ Refused request found → MayNoteNow m p step hand.piece found
unfolding is_missing
step_notes v m p step (enters number rest request none waiting of_piece is) noting hand in_hand missing other found walk =
    let finds = found_entering (fin.get m.tables.rights request.key) request.write in
    let process : request.key.process ≡ p.at.process = request_process p number request of_piece in
    let here : walk_at (set m.tables.walks request.key.process (entered_walk request finds)) p.at.process ≡ entered_walk request finds =
    walk_here m.tables.walks request.key.process p.at.process (entered_walk request finds) (sym process) noting.there in
    let refused : entered_walk request finds ≡ Refused other found =
    sym here ∙ ap (λ (x : Step). walk_at x.tables.walks p.at.process) (sym is) ∙ walk in
    let piece : number ≡ hand.piece = ap (λ (h : InHand). h.piece) (same_Some _ hand (ap (λ (x : Step). x.progress.hand) (sym is) ∙ in_hand)) in
    record {
      may =
          subst (λ (n : ℕ). HasRights m.store p (Missed p.at n found)) piece
          (note_entering v m p number request found noting of_piece (entered_found request other finds found refused));
      store = ap (λ (x : Step). (after_step m p x).store) is;
    }
step_notes v m p step (looks held request held_is phase of_piece is) noting hand in_hand missing other found walk =
    other_phase held.piece (phase_looked _) hand (MayNoteNow m p step hand.piece found) (looked_phase _)
    (ap (λ (x : Step). x.progress.hand) (sym is) ∙ in_hand) missing
step_notes v m p step (reads held request held_is phase of_piece is) noting hand in_hand missing other found walk =
    let cell = lookup m.tables request.key request.index in
    let process : request.key.process ≡ p.at.process = request_process p held.piece request of_piece in
    let here : walk_at (set m.tables.walks request.key.process (read_walk request cell)) p.at.process ≡ read_walk request cell =
    walk_here m.tables.walks request.key.process p.at.process (read_walk request cell) (sym process) noting.there in
    let refused : read_walk request cell ≡ Refused other found =
    sym here ∙ ap (λ (x : Step). walk_at x.tables.walks p.at.process) (sym is) ∙ walk in
    let piece : held.piece ≡ hand.piece = ap (λ (h : InHand). h.piece) (same_Some _ hand (ap (λ (x : Step). x.progress.hand) (sym is) ∙ in_hand)) in
    let entered : walk_at m.tables.walks p.at.process ≡ Entered request = walk_of m p held Reading request (noting.hands held held_is) phase of_piece in
    record {
      may =
          subst (λ (n : ℕ). HasRights m.store p (Missed p.at n found)) piece
          (note_reading v m p held.piece request found noting of_piece entered (read_found request other cell found refused));
      store = ap (λ (x : Step). (after_step m p x).store) is;
    }
step_notes v m p step (fills held request completion held_is phase of_piece told is) noting hand in_hand missing other found walk =
    other_phase held.piece Moving hand (MayNoteNow m p step hand.piece found) refl (ap (λ (x : Step). x.progress.hand) (sym is) ∙ in_hand) missing
step_notes v m p step (moves held completion entry held_is phase told entry_is is) noting hand in_hand missing other found walk =
    other_phase held.piece Retiring hand (MayNoteNow m p step hand.piece found) refl (ap (λ (x : Step). x.progress.hand) (sym is) ∙ in_hand) missing
step_notes v m p step (misses held finding held_is phase found_is is) noting hand in_hand missing other found walk =
    other_phase held.piece Retiring hand (MayNoteNow m p step hand.piece found) refl (ap (λ (x : Step). x.progress.hand) (sym is) ∙ in_hand) missing
step_notes v m p step (retires held held_is phase is) noting hand in_hand missing other found walk =
    other_phase held.piece Completing hand (MayNoteNow m p step hand.piece found) refl (ap (λ (x : Step). x.progress.hand) (sym is) ∙ in_hand) missing
step_notes v m p step (completes held held_is phase is) noting hand in_hand missing other found walk =
    absurd (none-some hand (ap (λ (x : Step). x.progress.hand) (sym is) ∙ in_hand))
