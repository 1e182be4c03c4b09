-- What walks missed for may be noted still, after each turn.
use Rattle.std.proofs.Common.{◌≡◌, ◌≢◌, inl, inr, ℕ, true, false, List, Some, refl, sym, ap, ◌∙◌, subst}
use Rattle.std.specs.FinMap as fin
use Rattle.std.proofs.lemmas.Bool.{both_ways, cases_eq}
use Rattle.std.proofs.lemmas.Option.{same_Some}
use Rattle.bd_base.specs.declared.journal.At.{At}
use Rattle.bd_base.specs.declared.journal.Found.{Found}
use Rattle.bd_base.specs.declared.key.Key.{Key}
use Rattle.bd_base.specs.declared.volume.Volume.{Volume}
use Rattle.bd_base.specs.Pieces.{Piece}
use Rattle.bd_entry.specs.declared.entry.Entry.{Entry}
use Rattle.bd_entry.specs.declared.entry.Entry.TheVariants.{Detached, Missed}
use Rattle.bd_entry.specs.Calls.{Place, fd_of, piece_of_call}
use Rattle.bd_entry.specs.Effects.{effect_of}
use Rattle.bd_entry.specs.Rules.{place_in}
use Rattle.bd_entry.specs.RulesOfRights.{HasRights, part_of}
use Rattle.bd_entry.specs.Store.{Store, Valid}
use Rattle.bd_tables.specs.declared.request.Request.{Request}
use Rattle.bd_tables.specs.declared.state.Walk.{Walk}
use Rattle.bd_tables.specs.declared.state.Walk.TheVariants.{Refused}
use Rattle.bd_tables.specs.Sound.{IsOpen, OnRight}
use Rattle.bd_tables.specs.State.{walk_at}
use Rattle.bd_turns.specs.Added.{EntriesAreNext, IsAdded, by_engine}
use Rattle.bd_turns.specs.Engines.{Step, engine_step}
use Rattle.bd_turns.specs.Sound.{IsWalkFor, MayNote}
use Rattle.bd_turns.specs.State.{InHand, Missing, State, progress_of, running}
use Rattle.bd_turns.specs.Turns.{after_step}
use Rattle.bd_turns.proofs.EngineSteps.{IsStep, enters, looks, reads, fills, moves, misses, retires, completes}
use Rattle.bd_turns.proofs.FindsKept.{Detaches}
use Rattle.bd_turns.proofs.FindsOfOthers.{misses_after_other, misses_same}
use Rattle.bd_turns.proofs.HandFrames.{IsSameCall, runs_still}
use Rattle.bd_turns.proofs.HandsKept.{AreWalking, IsCalm}
use Rattle.bd_turns.proofs.HandsOfSteps.{StepsHand, StepsTo}
use Rattle.bd_turns.proofs.NotableSteps.{Noting, step_notes}
use Rattle.bd_turns.proofs.RightsFit.{key_at}
use Rattle.bd_turns.proofs.RightsSteps.{touches_rights}
use Rattle.bd_turns.proofs.TableParts.{AreOpen}
use Rattle.bd_turns.proofs.TablesOfEngines.{same_request}
use Rattle.bd_turns.proofs.TablesOfSteps.{is_request, move_is_plain, walk_of}

-- ---- before the turn

-- what was so before the turn of an engine that has yet to note its miss
record WasNotable (m : State) (after : Place) (hand : InHand) (request : Request) (found : Found) : Type 0 where
  p : Place
  running_is : running m p.at.process ≡ Some p
  same : IsSameCall p after
  in_hand : (progress_of m p.at.process).hand ≡ Some hand
  refused : walk_at m.tables.walks p.at.process ≡ Refused request found
  may : HasRights m.store p (Missed p.at hand.piece found)

was_notable : (m next : State) (after : Place) (hand : InHand) (request : Request) (found : Found) → MayNote m → next.script ≡ m.script →
    (progress_of next after.at.process).ended ≡ (progress_of m after.at.process).ended →
    (progress_of m after.at.process).hand ≡ Some hand → walk_at m.tables.walks after.at.process ≡ Refused request found →
    running next after.at.process ≡ Some after → hand.phase ≡ Missing → WasNotable m after hand request found
was_notable m next after hand request found notable script ended in_hand refused runs missing =
    let still = runs_still m next after.at.process after script ended runs in
    let p = still.0 in
    let process : p.at.process ≡ after.at.process = ap (λ (a : At). a.process) still.2.at in
    let running_is : running m p.at.process ≡ Some p = ap (running m) process ∙ still.1 in
    let held : (progress_of m p.at.process).hand ≡ Some hand = ap (λ (n : ℕ). (progress_of m n).hand) process ∙ in_hand in
    let walk : walk_at m.tables.walks p.at.process ≡ Refused request found = ap (walk_at m.tables.walks) process ∙ refused in
    record {
      p = p;
      running_is = running_is;
      same = still.2;
      in_hand = held;
      refused = walk;
      may = notable p hand request found running_is held missing walk;
    }

-- the key of a refused walk
refused_key : (m : State) (p : Place) (hand : InHand) (request : Request) (found : Found) (fd : ℕ) (piece : Piece) → IsWalkFor m p hand →
    hand.phase ≡ Missing → walk_at m.tables.walks p.at.process ≡ Refused request found → fd_of p ≡ Some fd → piece_of_call p.call hand.piece ≡ Some piece →
    request.key ≡ key_at p.at.process fd (part_of piece.index)
refused_key m p hand request found fd piece walks missing refused fd_is piece_is =
    let walk = walk_of m p hand Missing walks.request walks missing walks.of_piece in
    let one : request ≡ walks.request = same_request request walks.request found walk.0 (sym refused ∙ walk.1) in
    let of = is_request p hand.piece walks.request walks.of_piece in
    let fd_same : of.fd ≡ fd = same_Some of.fd fd (sym of.fd_is ∙ fd_is) in
    let piece_same : of.piece ≡ piece = same_Some of.piece piece (sym of.piece_is ∙ piece_is) in
    ap (λ (r : Request). r.key) (one ∙ sym of.request_is)
    ∙ ap (λ (n : ℕ). key_at p.at.process n (part_of of.piece.index)) fd_same
    ∙ ap (λ (x : Piece). key_at p.at.process fd (part_of x.index)) piece_same

-- ---- turns of others

-- after an entry of another process that detaches no right in whose key engines may be
still_notable : (v : Volume) (m next : State) (p : Place) (e : Entry) (after : Place) (hand : InHand) (request : Request) (found : Found) →
    IsAdded v m p e → Valid m.store → AreWalking m → AreOpen m.tables.rights m.tables.walks → WasNotable m after hand request found →
    hand.phase ≡ Missing → next.store ≡ effect_of m.store (place_in m.store p.call p.at) e → after.at.process ≢ p.at.process →
    ((key : Key) → OnRight (λ right. IsOpen right.state) (fin.get m.tables.rights key) → ¬ Detaches key e) →
    HasRights next.store after (Missed after.at hand.piece found)
still_notable v m next p e after hand request found added valid walking opened was missing store other stays =
    let q = was.p in
    let process : q.at.process ≡ after.at.process = ap (λ (a : At). a.process) was.same.at in
    let walks = walking q.at.process q hand was.running_is was.in_hand in
    subst (λ (s : Store). HasRights s after (Missed after.at hand.piece found)) (sym store)
    (misses_after_other v m p e added valid q after hand.piece found was.same (λ same. other (sym process ∙ same))
    (λ fd piece fd_is piece_is differs.
    let key_is = refused_key m q hand request found fd piece walks missing was.refused fd_is piece_is in
    stays (key_at q.at.process fd (part_of piece.index))
    (subst (λ (k : Key). OnRight (λ right. IsOpen right.state) (fin.get m.tables.rights k)) key_is
    (opened q.at.process request found was.refused differs)))
    was.may)

-- ---- calm turns

calm_was : (m next : State) → IsCalm m next → MayNote m → (after : Place) (hand : InHand) (request : Request) (found : Found) →
    running next after.at.process ≡ Some after → (progress_of next after.at.process).hand ≡ Some hand → hand.phase ≡ Missing →
    walk_at next.tables.walks after.at.process ≡ Refused request found → WasNotable m after hand request found
calm_was m next calm notable after hand request found runs in_hand missing refused =
    let q = after.at.process in
    let held : (progress_of m q).hand ≡ Some hand = sym (calm.hands q) ∙ in_hand in
    was_notable m next after hand request found notable calm.script (calm.ended q hand held) held
    (sym (ap (λ (all : List Walk). walk_at all q) calm.walks) ∙ refused) runs missing

-- a calm turn that leaves the store
pub notable_calm : (m next : State) → IsCalm m next → next.store ≡ m.store → MayNote m → MayNote next
notable_calm m next calm store notable after hand request found runs in_hand missing refused =
    let was = calm_was m next calm notable after hand request found runs in_hand missing refused in
    subst (λ (s : Store). HasRights s after (Missed after.at hand.piece found)) (sym store)
    (misses_same m.store was.p after hand.piece found was.same was.may)

-- a calm turn that adds an entry of a process without a command in its engine's hand
pub notable_calm_entry : (v : Volume) (m next : State) (p : Place) (e : Entry) → IsCalm m next →
    next.store ≡ effect_of m.store (place_in m.store p.call p.at) e → IsAdded v m p e → Valid m.store → AreWalking m →
    AreOpen m.tables.rights m.tables.walks →
    ((hand : InHand) → (progress_of m p.at.process).hand ≡ Some hand → ⊥) →
    ((key : Key) → OnRight (λ right. IsOpen right.state) (fin.get m.tables.rights key) → ¬ Detaches key e) →
    MayNote m → MayNote next
notable_calm_entry v m next p e calm store added valid walking opened none stays notable after hand request found runs in_hand missing refused =
    let was = calm_was m next calm notable after hand request found runs in_hand missing refused in
    still_notable v m next p e after hand request found added valid walking opened was missing store
    (λ same. none hand (ap (λ (n : ℕ). (progress_of m n).hand) (sym same) ∙ sym (calm.hands after.at.process) ∙ in_hand))
    stays

-- ---- the steps of engines

-- an entry that touches no right detaches none
plain_detaches_nothing : (key : Key) (e : Entry) → touches_rights e ≡ false → ¬ Detaches key e
plain_detaches_nothing key (Detached at owner fd part) untouched detaches = both_ways true untouched refl
plain_detaches_nothing key e untouched detaches = detaches

-- what a step adds to the store
data StepStore (m : State) (p : Place) (step : Step) : Type 0 where
  leaves : (after_step m p step).store ≡ m.store → StepStore m p step
  adds_plain : (e : Entry) → step.entry ≡ Some e → touches_rights e ≡ false →
      (after_step m p step).store ≡ effect_of m.store (place_in m.store p.call p.at) e → StepStore m p step

step_store : (m : State) (p : Place) (step : Step) → IsStep m p step → StepStore m p step
step_store m p step (enters number rest request none waiting of_piece is) = leaves (ap (λ (x : Step). (after_step m p x).store) is)
step_store m p step (looks hand request in_hand phase of_piece is) = leaves (ap (λ (x : Step). (after_step m p x).store) is)
step_store m p step (reads hand request in_hand phase of_piece is) = leaves (ap (λ (x : Step). (after_step m p x).store) is)
step_store m p step (fills hand request completion in_hand phase of_piece told is) = leaves (ap (λ (x : Step). (after_step m p x).store) is)
step_store m p step (moves hand completion entry in_hand phase told entry_is is) =
    adds_plain entry (ap (λ (x : Step). x.entry) is) (move_is_plain m.store p hand.piece completion.block entry entry_is).rights
    (ap (λ (x : Step). (after_step m p x).store) is)
step_store m p step (misses hand found in_hand phase found_is is) =
    adds_plain (Missed p.at hand.piece found) (ap (λ (x : Step). x.entry) is) refl (ap (λ (x : Step). (after_step m p x).store) is)
step_store m p step (retires hand in_hand phase is) = leaves (ap (λ (x : Step). (after_step m p x).store) is)
step_store m p step (completes hand in_hand phase is) = leaves (ap (λ (x : Step). (after_step m p x).store) is)

pub notable_after_step : (v : Volume) (m : State) (p : Place) (step : Step) → EntriesAreNext v m → running m p.at.process ≡ Some p →
    engine_step m p ≡ Some step → IsStep m p step → StepsHand m p step → StepsTo m p step (after_step m p step) → Noting v m p →
    AreWalking m → MayNote m → MayNote (after_step m p step)
notable_after_step v m p step next_are running_is acting is steps to noting walking notable after hand request found runs in_hand missing refused =
    elim (cases_eq after.at.process p.at.process) [
      | inl same ↦ own same
      | inr other ↦ of_other other (step_store m p step is)
    ]
  where
    next : State
    next = after_step m p step

    ended : (progress_of next after.at.process).ended ≡ (progress_of m after.at.process).ended
    ended = to.ended after.at.process hand in_hand

    own : after.at.process ≡ p.at.process → HasRights next.store after (Missed after.at hand.piece found)
    own same =
        let still = runs_still m next after.at.process after to.script ended runs in
        let one : p ≡ still.0 = same_Some p still.0 (sym running_is ∙ ap (running m) (sym same) ∙ still.1) in
        let same_call : IsSameCall p after = subst (λ (q : Place). IsSameCall q after) (sym one) still.2 in
        let held : step.progress.hand ≡ Some hand = sym to.here ∙ ap (λ (n : ℕ). (progress_of next n).hand) (sym same) ∙ in_hand in
        let walk : walk_at step.tables.walks p.at.process ≡ Refused request found =
        ap (walk_at step.tables.walks) (sym same) ∙ sym (ap (λ (all : List Walk). walk_at all after.at.process) to.walks) ∙ refused in
        let now = step_notes v m p step is noting hand held missing request found walk in
        subst (λ (s : Store). HasRights s after (Missed after.at hand.piece found)) (sym now.store)
        (misses_same m.store p after hand.piece found same_call now.may)

    of_other : after.at.process ≢ p.at.process → StepStore m p step → HasRights next.store after (Missed after.at hand.piece found)
    of_other other store =
        let held : (progress_of m after.at.process).hand ≡ Some hand = sym (to.others after.at.process other) ∙ in_hand in
        let walk : walk_at m.tables.walks after.at.process ≡ Refused request found =
        sym (steps.others after.at.process other) ∙ sym (ap (λ (all : List Walk). walk_at all after.at.process) to.walks) ∙ refused in
        let was = was_notable m next after hand request found notable to.script ended held walk runs missing in
        by was store
      where
        by : WasNotable m after hand request found → StepStore m p step → HasRights next.store after (Missed after.at hand.piece found)
        by was (leaves same) =
            subst (λ (s : Store). HasRights s after (Missed after.at hand.piece found)) (sym same)
            (misses_same m.store was.p after hand.piece found was.same was.may)
        by was (adds_plain e entry untouched store_is) =
            let added = next_are p e (by_engine step running_is acting entry) in
            still_notable v m next p e after hand request found added noting.valid walking noting.tables.open_keys was missing store_is other
            (λ key on. plain_detaches_nothing key e untouched)
