-- What each effective turn takes of its call: one turn more was used, or the call has ended.
use Rattle.std.proofs.Common.{◌≡◌, ◌≢◌, ◌⊎◌, inl, inr, ℕ, ◌+◌, ◌<◌, Bool, true, false, cond, List, [], ◌∷◌, ◌++◌, length, Option, None, Some, refl, sym, ap, ◌∙◌, subst}
use Rattle.std.specs.Prelude.{drop}
use Rattle.std.proofs.lemmas.List.{get_or-set_other, get_or-set_same, length-set}
use Rattle.bd_base.specs.declared.volume.Volume.{Volume}
use Rattle.bd_entry.specs.declared.entry.Entry.{Entry}
use Rattle.bd_entry.specs.Calls.{Place, entries_of}
use Rattle.bd_turns.specs.Reached.{IsReached}
use Rattle.bd_entry.specs.Refusals.{file_of}
use Rattle.bd_turns.specs.declared.turn.Row.TheVariants as rows
use Rattle.bd_turns.specs.Sound.{HasProcesses}
use Rattle.bd_turns.specs.State.{Progress, State, has_ended, progress_of, running, with_progress}
use Rattle.bd_turns.specs.Turns.{after_effect, with_call_ended, with_entry, with_entry_if_any, with_hold, with_turn_used}
use Rattle.bd_turns.proofs.CallsAfterTurns.{runs_within}
use Rattle.bd_turns.proofs.Cases.{Effective, adds, changes, ends, polls, posts, steps, submits}
use Rattle.bd_turns.proofs.LegalDetaches.{posting}
use Rattle.bd_turns.proofs.StepTurns.{steps_fall}

-- the turn was one in the name of this running call, which took one turn more or ended; all else stays
pub record Spends (m next : State) (p : Place) : Type 0 where
  pub runs : running m p.at.process ≡ Some p
  pub script : next.script ≡ m.script
  pub count : length next.processes ≡ length m.processes
  pub others : (q : ℕ) → q ≢ p.at.process → progress_of next q ≡ progress_of m q
  pub own :
      (((progress_of next p.at.process).ended ≡ (progress_of m p.at.process).ended + 1) × ((progress_of next p.at.process).used ≡ 0))
      ⊎ (((progress_of next p.at.process).ended ≡ (progress_of m p.at.process).ended)
      × ((progress_of next p.at.process).used ≡ (progress_of m p.at.process).used + 1))

-- one more turn, or the end, of a process that is as far as before
module _ (m n : State) (p : Place) (runs : running m p.at.process ≡ Some p) (has : HasProcesses m) (script : n.script ≡ m.script)
    (count : length n.processes ≡ length m.processes) (others : (q : ℕ) → q ≢ p.at.process → progress_of n q ≡ progress_of m q)
    (ended : (progress_of n p.at.process).ended ≡ (progress_of m p.at.process).ended)
    (used : (progress_of n p.at.process).used ≡ (progress_of m p.at.process).used) where
  spent : Spends m (after_effect n p) p
  spent =
      let process : ℕ = p.at.process in
      let progress : Progress = progress_of n process in
      let over : Bool = has_ended p.call (entries_of p.at n.journal) progress in
      let after : Progress = cond over (with_call_ended progress) (with_turn_used progress) in
      let within : process < length n.processes = subst (λ (k : ℕ). process < k) (sym count) (runs_within m process p has runs) in
      let mine : progress_of (after_effect n p) process ≡ after = get_or-set_same n.processes process after _ within in
      record {
        runs = runs;
        script = script;
        count = length-set n.processes process after ∙ count;
        others = λ q differ. get_or-set_other n.processes process q after _ differ ∙ others q differ;
        own = by over mine;
      }
    where
      by : (b : Bool) →
          progress_of (after_effect n p) p.at.process
          ≡ cond b (with_call_ended (progress_of n p.at.process)) (with_turn_used (progress_of n p.at.process)) →
          (((progress_of (after_effect n p) p.at.process).ended ≡ (progress_of m p.at.process).ended + 1)
          × ((progress_of (after_effect n p) p.at.process).used ≡ 0))
          ⊎ (((progress_of (after_effect n p) p.at.process).ended ≡ (progress_of m p.at.process).ended)
          × ((progress_of (after_effect n p) p.at.process).used ≡ (progress_of m p.at.process).used + 1))
      by true is = inl (ap (λ (g : Progress). g.ended) is ∙ ap (λ (k : ℕ). k + 1) ended, ap (λ (g : Progress). g.used) is)
      by false is = inr (ap (λ (g : Progress). g.ended) is ∙ ended, ap (λ (g : Progress). g.used) is ∙ ap (λ (k : ℕ). k + 1) used)

-- the same after the progress of the process was changed, as far as it is the same
spent_set : (m k : State) (p : Place) (x : Progress) → running m p.at.process ≡ Some p → HasProcesses m → k.script ≡ m.script → k.processes ≡ m.processes →
    x.ended ≡ (progress_of m p.at.process).ended → x.used ≡ (progress_of m p.at.process).used →
    Spends m (after_effect (with_progress k p.at.process x) p) p
spent_set m k p x runs has script same ended used =
    let process : ℕ = p.at.process in
    let within : process < length k.processes =
    subst (λ (l : List Progress). process < length l) (sym same) (runs_within m process p has runs) in
    let mine : progress_of (with_progress k process x) process ≡ x = get_or-set_same k.processes process x _ within in
    spent m (with_progress k process x) p runs has script (length-set k.processes process x ∙ ap (λ (l : List Progress). length l) same)
    (λ q differ.
    get_or-set_other k.processes process q x _ differ ∙ ap (λ (l : List Progress). progress_of (record k { processes = l }) q) same)
    (ap (λ (g : Progress). g.ended) mine ∙ ended) (ap (λ (g : Progress). g.used) mine ∙ used)

-- so is each effective turn
pub effective_spends : (v : Volume) (m next : State) → IsReached v m → Effective m next → (p : Place) × Spends m next p
effective_spends v m next reached (adds p row e runs acting) =
    let has = reached.sound.calls.processes in
    (p, spent_set m _ p (with_hold p.call row (file_of m.store p) (progress_of m p.at.process)) runs has refl refl refl refl)
effective_spends v m next reached (posts p key runs acting) =
    let has = reached.sound.calls.processes in
    (p, spent_set m _ p (with_hold p.call rows.Post (file_of m.store p) (progress_of m p.at.process)) runs has refl refl refl refl)
effective_spends v m next reached (submits p piece runs acting) =
    let has = reached.sound.calls.processes in
    let old : Progress = progress_of m p.at.process in
    (p, spent_set m m p (record old { submitted = old.submitted ++ piece ∷ [] }) runs has refl refl refl refl)
effective_spends v m next reached (polls p runs acting) =
    let has = reached.sound.calls.processes in
    let old : Progress = progress_of m p.at.process in
    (p, spent_set m m p (record old { completed = drop 1 old.completed }) runs has refl refl refl refl)
effective_spends v m next reached (steps p step runs stepping) =
    let falls = steps_fall m p step stepping in
    (p, of_entry step.entry falls.ended falls.used)
  where
    of_entry : (entry : Option Entry) → step.progress.ended ≡ (progress_of m p.at.process).ended → step.progress.used ≡ (progress_of m p.at.process).used →
        Spends m
        (after_effect (with_progress (record (with_entry_if_any m p entry) { tables = step.tables }) p.at.process step.progress) p) p
    of_entry None ended used = spent_set m _ p step.progress runs reached.sound.calls.processes refl refl ended used
    of_entry (Some e) ended used = spent_set m _ p step.progress runs reached.sound.calls.processes refl refl ended used
effective_spends v m next reached (changes p row tables place acting) =
    (p, spent m (record m { tables = tables }) p (posting v m p reached place).running_is reached.sound.calls.processes refl refl (λ q differ. refl) refl refl)
effective_spends v m next reached (ends p e tables place acting) = (
  p,
  spent m (record (with_entry m p.call e p.at) { tables = tables; posted = drop 1 m.posted }) p (posting v m p reached place).running_is
      reached.sound.calls.processes refl refl (λ q differ. refl) refl refl,
)
