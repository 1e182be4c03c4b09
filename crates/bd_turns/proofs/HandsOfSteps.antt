-- Engines with a command in hand walk for its request, and the others are idle, through each step of a device engine.
use Rattle.std.proofs.Common.{◌≡◌, ◌≢◌, inl, inr, ℕ, ◌<◌, nat_le, cond, Bool, true, false, List, length, set, Option, None, Some, refl, sym, ap, ◌∙◌, subst}
use Rattle.std.specs.Prelude.{slice_index_or}
use Rattle.std.specs.FinMap as fin
use Rattle.std.proofs.lemmas.Bool.{cases_eq}
use Rattle.std.proofs.lemmas.List.{get_or-set_other, get_or-set_same}
use Rattle.std.proofs.lemmas.Option.{none-some, same_Some}
use Rattle.bd_base.specs.declared.journal.Found.{Found}
use Rattle.bd_base.specs.declared.journal.Found.TheVariants.{NoEntry, Beyond}
use Rattle.bd_base.specs.declared.key.Cell.{Cell}
use Rattle.bd_base.specs.declared.journal.At.{At}
use Rattle.bd_entry.specs.declared.entry.Entry.{Entry}
use Rattle.bd_entry.specs.Calls.{Place}
use Rattle.bd_lines.specs.Lines.{hit}
use Rattle.bd_tables.specs.declared.request.Request.{Request}
use Rattle.bd_tables.specs.declared.state.Walk.{Walk}
use Rattle.bd_tables.specs.declared.state.Walk.TheVariants.{Idle, Refused, Translated}
use Rattle.bd_tables.specs.Effects.{entered_walk, looked_walk, read_walk}
use Rattle.bd_tables.specs.State.{TableState, completion_of, found_entering, found_reading, lookup, walk_at}
use Rattle.bd_turns.specs.Engines.{Step, phase_after, phase_looked, request_of_piece}
use Rattle.bd_turns.specs.Sound.{IsIdleWithout, IsWalkAt, IsWalkFor}
use Rattle.bd_turns.specs.State.{InHand, Phase, Looking, Filling, Moving, Missing, Retiring, Completing, Progress, State, new_progress, progress_of, running, with_progress}
use Rattle.bd_turns.specs.Turns.{after_step, with_entry_if_any}
use Rattle.bd_turns.proofs.Cases.{running_process}
use Rattle.bd_turns.proofs.EngineSteps.{IsStep, enters, looks, reads, fills, moves, misses, retires, completes}
use Rattle.bd_turns.proofs.HandFrames.{IsSameCall, ended_after_effect, hands_after_effect, progress_here, progress_other, runs_still}
use Rattle.bd_turns.proofs.HandsKept.{AreWalking, same_request_of, walk_at_same, walks_still}
use Rattle.bd_turns.proofs.TablesOfSteps.{request_process, walk_of}

-- ---- walks

-- the walk of a process that is there, as it was set
pub walk_here : (all : List Walk) (process other : ℕ) (walk : Walk) → other ≡ process → other < length all → walk_at (set all process walk) other ≡ walk
walk_here all process other walk same within =
    ap (λ (n : ℕ). walk_at (set all n walk) other) (sym same) ∙ get_or-set_same all other walk Idle within

walk_other : (all : List Walk) (process q : ℕ) (walk : Walk) → q ≢ process → walk_at (set all process walk) q ≡ walk_at all q
walk_other all process q walk other = get_or-set_other all process q walk Idle other

-- ---- what a step leads to

-- after a step the engine walks for the command in its hand, or is idle; the others stay where they are
pub record StepsHand (m : State) (p : Place) (step : Step) : Type 0 where
  pub new : (hand : InHand) → step.progress.hand ≡ Some hand →
      (request : Request) × (request_of_piece p hand.piece ≡ Some request) × IsWalkAt hand.phase request step.tables p.at.process
  pub none : step.progress.hand ≡ None → walk_at step.tables.walks p.at.process ≡ Idle
  pub others : (q : ℕ) → q ≢ p.at.process → walk_at step.tables.walks q ≡ walk_at m.tables.walks q
  pub ended : step.progress.ended ≡ (progress_of m p.at.process).ended

entered_at : (request : Request) (found : Option Found) (tables : TableState) (process : ℕ) →
    walk_at tables.walks process ≡ entered_walk request found → IsWalkAt (phase_after found Looking) request tables process
entered_at request None tables process is = is
entered_at request (Some found) tables process is = (found, is)

looked_at : (request : Request) (cell : Option Cell) (tables : TableState) (process : ℕ) →
    walk_at tables.walks process ≡ looked_walk request cell → IsWalkAt (phase_looked cell) request tables process
looked_at request None tables process is = is
looked_at request (Some cell) tables process is = (completion_of request cell, is)

read_at : (request : Request) (cell : Option Cell) (tables : TableState) (process : ℕ) →
    walk_at tables.walks process ≡ read_walk request cell → IsWalkAt (phase_after (found_reading request.hi cell) Filling) request tables process
read_at request None tables process is = (NoEntry, is)
read_at request (Some cell) tables process is = by (nat_le request.hi cell.limit) is
  where
    by : (b : Bool) →
        walk_at tables.walks process ≡ cond b (Translated request (completion_of request cell)) (Refused request (Beyond cell.limit)) →
        IsWalkAt (phase_after (cond b None (Some (Beyond cell.limit))) Filling) request tables process
    by true is = (completion_of request cell, is)
    by false is = (Beyond cell.limit, is)

-- of a step that goes on with this piece
goes_on : (m : State) (p : Place) (tables : TableState) (progress : Progress) (number : ℕ) (phase : Phase) (entry : Option Entry) (row : _)
    (request : Request) →
    let step : Step = record {
      row = row;
      tables = tables;
      progress = record progress { hand = Some (record { piece = number; phase = phase }) };
      entry = entry;
    } in
    request_of_piece p number ≡ Some request → IsWalkAt phase request tables p.at.process →
    ((q : ℕ) → q ≢ p.at.process → walk_at tables.walks q ≡ walk_at m.tables.walks q) →
    progress.ended ≡ (progress_of m p.at.process).ended → StepsHand m p step
goes_on m p tables progress number phase entry row request of_piece walk others ended = record {
  new = λ hand is.
      let one : record { piece = number; phase = phase } ≡ hand = same_Some _ hand is in (
        request,
        ap (λ (h : InHand). request_of_piece p h.piece) (sym one) ∙ of_piece,
        subst (λ (h : InHand). IsWalkAt h.phase request tables p.at.process) one walk,
      );
  none = λ is. absurd (none-some _ (sym is));
  others = others;
  ended = ended;
}

-- the old walk for the piece in hand
old_walk : (m : State) (p : Place) (hand : InHand) (phase : Phase) → IsWalkFor m p hand → hand.phase ≡ phase →
    (request : Request) × (request_of_piece p hand.piece ≡ Some request) × IsWalkAt phase request m.tables p.at.process
old_walk m p hand phase walks is =
    (walks.request, walks.of_piece, subst (λ (x : Phase). IsWalkAt x walks.request m.tables p.at.process) is walks.walk)

pub steps_hand : (m : State) (p : Place) (step : Step) → IsStep m p step → p.at.process < length m.tables.walks →
    ((hand : InHand) → (progress_of m p.at.process).hand ≡ Some hand → IsWalkFor m p hand) → StepsHand m p step
steps_hand m p step (enters number rest request none waiting of_piece is) within hands =
    let found = found_entering (fin.get m.tables.rights request.key) request.write in
    let process : request.key.process ≡ p.at.process = request_process p number request of_piece in
    subst (StepsHand m p) (sym is)
    (goes_on m p _ (record (progress_of m p.at.process) { submitted = rest }) number (phase_after found Looking) None _ request of_piece
    (entered_at request found _ p.at.process (walk_here m.tables.walks request.key.process p.at.process (entered_walk request found) (sym process) within))
    (λ q other. walk_other m.tables.walks request.key.process q (entered_walk request found) (λ same. other (same ∙ process)))
    refl)
steps_hand m p step (looks hand request in_hand phase of_piece is) within hands =
    let cell = hit m.tables.lines request.key request.index request.hi in
    let process : request.key.process ≡ p.at.process = request_process p hand.piece request of_piece in
    subst (StepsHand m p) (sym is)
    (goes_on m p _ (progress_of m p.at.process) hand.piece (phase_looked cell) None _ request of_piece
    (looked_at request cell _ p.at.process (walk_here m.tables.walks request.key.process p.at.process (looked_walk request cell) (sym process) within))
    (λ q other. walk_other m.tables.walks request.key.process q (looked_walk request cell) (λ same. other (same ∙ process)))
    refl)
steps_hand m p step (reads hand request in_hand phase of_piece is) within hands =
    let cell = lookup m.tables request.key request.index in
    let process : request.key.process ≡ p.at.process = request_process p hand.piece request of_piece in
    subst (StepsHand m p) (sym is)
    (goes_on m p _ (progress_of m p.at.process) hand.piece (phase_after (found_reading request.hi cell) Filling) None _ request of_piece
    (read_at request cell _ p.at.process (walk_here m.tables.walks request.key.process p.at.process (read_walk request cell) (sym process) within))
    (λ q other. walk_other m.tables.walks request.key.process q (read_walk request cell) (λ same. other (same ∙ process)))
    refl)
steps_hand m p step (fills hand request completion in_hand phase of_piece told is) within hands =
    subst (StepsHand m p) (sym is)
    (goes_on m p _ (progress_of m p.at.process) hand.piece Moving None _ request of_piece
    (walk_of m p hand Filling request (hands hand in_hand) phase of_piece)
    (λ q other. refl) refl)
steps_hand m p step (moves hand completion entry in_hand phase told entry_is is) within hands =
    let old = old_walk m p hand Moving (hands hand in_hand) phase in
    subst (StepsHand m p) (sym is)
    (goes_on m p m.tables (progress_of m p.at.process) hand.piece Retiring (Some entry) _ old.0 old.1 (inl old.2) (λ q other. refl) refl)
steps_hand m p step (misses hand found in_hand phase found_is is) within hands =
    let old = old_walk m p hand Missing (hands hand in_hand) phase in
    subst (StepsHand m p) (sym is)
    (goes_on m p m.tables (progress_of m p.at.process) hand.piece Retiring (Some _) _ old.0 old.1 (inr old.2) (λ q other. refl) refl)
steps_hand m p step (retires hand in_hand phase is) within hands =
    let old = hands hand in_hand in
    subst (StepsHand m p) (sym is)
    (goes_on m p _ (progress_of m p.at.process) hand.piece Completing None _ old.request old.of_piece
    (walk_here m.tables.walks p.at.process p.at.process Idle refl within)
    (λ q other. walk_other m.tables.walks p.at.process q Idle other)
    refl)
steps_hand m p step (completes hand in_hand phase is) within hands =
    let old = old_walk m p hand Completing (hands hand in_hand) phase in
    subst (StepsHand m p) (sym is)
    (record {
      new = λ other none. absurd (none-some other none);
      none = λ none. old.2;
      others = λ q other. refl;
      ended = refl;
    })

-- ---- the state after a step

-- a step changes the progress and the walk of its process alone, and ends no call whose command is in hand
pub record StepsTo (m : State) (p : Place) (step : Step) (next : State) : Type 0 where
  pub script : next.script ≡ m.script
  pub here : (progress_of next p.at.process).hand ≡ step.progress.hand
  pub others : (q : ℕ) → q ≢ p.at.process → (progress_of next q).hand ≡ (progress_of m q).hand
  pub ended : (q : ℕ) (hand : InHand) → (progress_of next q).hand ≡ Some hand → (progress_of next q).ended ≡ (progress_of m q).ended
  pub walks : next.tables.walks ≡ step.tables.walks

-- an entry changes neither the script nor how far the processes are
pub entry_processes : (m : State) (p : Place) (entry : Option Entry) → (with_entry_if_any m p entry).processes ≡ m.processes
entry_processes m p None = refl
entry_processes m p (Some entry) = refl

pub entry_script : (m : State) (p : Place) (entry : Option Entry) → (with_entry_if_any m p entry).script ≡ m.script
entry_script m p None = refl
entry_script m p (Some entry) = refl

pub steps_to : (m : State) (p : Place) (step : Step) → StepsHand m p step → p.at.process < length m.processes → StepsTo m p step (after_step m p step)
steps_to m p step hand within =
    record {
      script = entry_script m p step.entry;
      here = hands_after_effect mid p p.at.process ∙ ap (λ (x : Progress). x.hand) new;
      others = λ q other. hands_after_effect mid p q ∙ ap (λ (x : Progress). x.hand) (old q other);
      ended = λ q in_hand is.
          ended_after_effect mid p q in_hand (sym (hands_after_effect mid p q) ∙ is)
          ∙ elim (cases_eq q p.at.process) [
            | inl same ↦
                ap (λ (n : ℕ). (progress_of mid n).ended) same ∙ ap (λ (x : Progress). x.ended) new ∙ hand.ended
                ∙ ap (λ (n : ℕ). (progress_of m n).ended) (sym same)
            | inr other ↦ ap (λ (x : Progress). x.ended) (old q other)
          ];
      walks = refl;
    }
  where
    base : State
    base = record (with_entry_if_any m p step.entry) { tables = step.tables }

    mid : State
    mid = with_progress base p.at.process step.progress

    processes : base.processes ≡ m.processes
    processes = entry_processes m p step.entry

    new : progress_of mid p.at.process ≡ step.progress
    new = progress_here base p.at.process step.progress (subst (λ (all : List Progress). p.at.process < length all) (sym processes) within)

    old : (q : ℕ) → q ≢ p.at.process → progress_of mid q ≡ progress_of m q
    old q other =
        progress_other base p.at.process step.progress q other ∙ ap (λ (all : List Progress). slice_index_or all q new_progress) processes

-- engines with a command in hand still walk for its request
pub walking_after_step : (m : State) (p : Place) (step : Step) → running m p.at.process ≡ Some p → StepsHand m p step →
    StepsTo m p step (after_step m p step) → AreWalking m → AreWalking (after_step m p step)
walking_after_step m p step running_is steps to walking process after hand runs in_hand =
    let next = after_step m p step in
    let still = runs_still m next process after to.script (to.ended process hand in_hand) runs in
    elim (cases_eq process p.at.process) [
      | inl same ↦
          let one : p ≡ still.0 = same_Some p still.0 (sym running_is ∙ ap (running m) (sym same) ∙ still.1) in
          let same_call : IsSameCall p after = subst (λ (q : Place). IsSameCall q after) (sym one) still.2 in
          let new = steps.new hand (sym to.here ∙ ap (λ (n : ℕ). (progress_of next n).hand) (sym same) ∙ in_hand) in
          record {
            request = new.0;
            of_piece = same_request_of p after hand.piece new.0 same_call new.1;
            walk =
                walk_at_same hand.phase new.0 step.tables next.tables p.at.process after.at.process
                (ap (λ (all : List Walk). walk_at all after.at.process) to.walks
                ∙ ap (λ (a : At). walk_at step.tables.walks a.process) (sym same_call.at)) new.2;
          }
      | inr other ↦
          let of_process : still.0.at.process ≡ process = running_process m process still.0 still.1 in
          walks_still m next still.0 after hand still.2
          (ap (λ (all : List Walk). walk_at all still.0.at.process) to.walks
          ∙ steps.others still.0.at.process (λ same. other (sym of_process ∙ same)))
          (walking process still.0 hand still.1 (sym (to.others process other) ∙ in_hand))
    ]

pub idle_after_step : (m : State) (p : Place) (step : Step) → StepsHand m p step → StepsTo m p step (after_step m p step) → IsIdleWithout m →
    IsIdleWithout (after_step m p step)
idle_after_step m p step steps to idle process none =
    let next = after_step m p step in
    ap (λ (all : List Walk). walk_at all process) to.walks
    ∙ elim (cases_eq process p.at.process) [
      | inl same ↦
          ap (walk_at step.tables.walks) same
          ∙ steps.none (sym to.here ∙ ap (λ (n : ℕ). (progress_of next n).hand) (sym same) ∙ none)
      | inr other ↦ steps.others process other ∙ idle process (sym (to.others process other) ∙ none)
    ]
