-- What turns leave of the hands of engines and of the calls that run.
use Rattle.std.proofs.Common.{◌≡◌, ◌≢◌, ◌⊎◌, ℕ, Bool, true, false, ◌&&◌, cond, List, [], ◌∷◌, ◌++◌, map, length, Option, None, Some, refl, sym, ap, ◌∙◌, ⊎_elim, ◌<◌}
use Rattle.std.specs.Option.{option_map}
use Rattle.std.proofs.lemmas.List.{get_or-set_same}
use Rattle.std.proofs.lemmas.Option.{none-some}
use Rattle.bd_base.specs.declared.script.Call.{Call}
use Rattle.bd_base.specs.declared.script.Script.{Script}
use Rattle.bd_entry.specs.declared.entry.Entry.{Entry}
use Rattle.bd_entry.specs.Actions.{is_none_of}
use Rattle.bd_entry.specs.Calls.{Place, call_at, entries_of, is_ended_by}
use Rattle.bd_entry.proofs.DescriptorSteps.{index_or-set_cases}
use Rattle.bd_entry.proofs.NextActs.{map_from}
use Rattle.bd_turns.specs.State.{Completed, InHand, Progress, State, has_ended, new_progress, outstanding, pieces_in_hand, place_of, progress_of, running, running_at, with_progress}
use Rattle.bd_turns.specs.Turns.{after_effect, with_call_ended, with_turn_used}

-- ---- the progress of one process

-- of another process it stays
pub progress_cases : (m : State) (process : ℕ) (progress : Progress) (q : ℕ) →
    (progress_of (with_progress m process progress) q ≡ progress_of m q)
    ⊎ ((q ≡ process) × (progress_of (with_progress m process progress) q ≡ progress))
progress_cases m process progress q = index_or-set_cases m.processes process progress q new_progress

pub progress_other : (m : State) (process : ℕ) (progress : Progress) (q : ℕ) → q ≢ process →
    progress_of (with_progress m process progress) q ≡ progress_of m q
progress_other m process progress q other =
    ⊎_elim (λ same. same) (λ new. absurd (other new.0)) (progress_cases m process progress q)

-- of a process that is there it is the new one
pub progress_here : (m : State) (process : ℕ) (progress : Progress) → process < length m.processes →
    progress_of (with_progress m process progress) process ≡ progress
progress_here m process progress within = get_or-set_same m.processes process progress new_progress within

-- a change that keeps what a field says keeps it for each process
pub progress_kept : {X : Type 0} (field : Progress → X) (m : State) (process : ℕ) (progress : Progress) → field progress ≡ field (progress_of m process) →
    (q : ℕ) → field (progress_of (with_progress m process progress) q) ≡ field (progress_of m q)
progress_kept field m process progress same q =
    ⊎_elim (λ stays. ap field stays) (λ new. ap field new.1 ∙ same ∙ ap (λ (n : ℕ). field (progress_of m n)) (sym new.0))
    (progress_cases m process progress q)

-- ---- the hands

-- a process with a command in its engine's hand has one outstanding
pub hand_outstanding : (progress : Progress) (hand : InHand) → progress.hand ≡ Some hand → is_none_of (outstanding progress) ≡ false
hand_outstanding progress hand is = by (map (λ (done : Completed). done.piece) progress.completed) progress.hand is
  where
    by : (front : List ℕ) (slot : Option InHand) → slot ≡ Some hand → is_none_of (front ++ pieces_in_hand slot ++ progress.submitted) ≡ false
    by front None is = absurd (none-some hand is)
    by [] (Some h) is = refl
    by (x ∷ xs) (Some h) is = refl

-- so its call has not ended
pub hand_unended : (call : Call) (entries : List Entry) (progress : Progress) (hand : InHand) → progress.hand ≡ Some hand →
    has_ended call entries progress ≡ false
hand_unended call entries progress hand is =
    and_false (is_ended_by call entries) (is_none_of (outstanding progress)) (hand_outstanding progress hand is)
  where
    and_false : (a b : Bool) → b ≡ false → (a && b) ≡ false
    and_false true b fails = fails
    and_false false b fails = refl

-- the end of a turn in the name of a call leaves all hands
pub hands_after_effect : (m : State) (p : Place) (q : ℕ) → (progress_of (after_effect m p) q).hand ≡ (progress_of m q).hand
hands_after_effect m p q =
    let progress = progress_of m p.at.process in
    progress_kept (λ (x : Progress). x.hand) m p.at.process _ (by (has_ended p.call (entries_of p.at m.journal) progress) progress) q
  where
    by : (b : Bool) (progress : Progress) → (cond b (with_call_ended progress) (with_turn_used progress)).hand ≡ progress.hand
    by true progress = refl
    by false progress = refl

-- it ends no call of a process with a command in its engine's hand
pub ended_after_effect : (m : State) (p : Place) (q : ℕ) (hand : InHand) → (progress_of m q).hand ≡ Some hand →
    (progress_of (after_effect m p) q).ended ≡ (progress_of m q).ended
ended_after_effect m p q hand is =
    let progress = progress_of m p.at.process in
    let ends = has_ended p.call (entries_of p.at m.journal) progress in
    ⊎_elim
    (λ same. ap (λ (x : Progress). x.ended) same)
    (λ new.
    let goes_on : ends ≡ false =
    hand_unended p.call (entries_of p.at m.journal) progress hand (ap (λ (n : ℕ). (progress_of m n).hand) (sym new.0) ∙ is) in
    ap (λ (x : Progress). x.ended) new.1
    ∙ ap (λ (b : Bool). (cond b (with_call_ended progress) (with_turn_used progress)).ended) goes_on
    ∙ ap (λ (n : ℕ). (progress_of m n).ended) (sym new.0))
    (progress_cases m p.at.process (cond ends (with_call_ended progress) (with_turn_used progress)) q)

-- ---- the calls that run

-- the same call of the same process runs at both places
pub record IsSameCall (p other : Place) : Type 0 where
  pub call : p.call ≡ other.call
  pub at : p.at ≡ other.at

-- a process whose calls that have ended are as many runs the same call
pub runs_still : (m next : State) (q : ℕ) (after : Place) → next.script ≡ m.script → (progress_of next q).ended ≡ (progress_of m q).ended →
    running next q ≡ Some after → (p : Place) × (running m q ≡ Some p) × IsSameCall p after
runs_still m next q after script ended is =
    let at_is : running_at next q ≡ running_at m q = ap (λ (n : ℕ). record { process = q; call = n }) ended in
    let found = map_from (place_of next (running_at next q)) (call_at next.script (running_at next q)) after is in
    let call_is : call_at m.script (running_at m q) ≡ Some found.0 =
    ap (call_at m.script) (sym at_is) ∙ ap (λ (x : Script). call_at x (running_at next q)) (sym script) ∙ found.1 in (
      place_of m (running_at m q) found.0,
      ap (option_map (place_of m (running_at m q))) call_is,
      record { call = ap (λ (x : Place). x.call) found.2; at = sym at_is ∙ ap (λ (x : Place). x.at) found.2 },
    )
