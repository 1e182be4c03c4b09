-- The rest falls with each effective turn, since no call takes more turns than the rest counts for it.
use Rattle.std.proofs.Common.{◌≡◌, ℕ, ◌+◌, ◌-◌, ◌*◌, ◌<◌, ◌≤◌, length, map, Option, None, Some, refl, sym, ap, ◌∙◌, subst, arith, ⊎_elim}
use Rattle.std.specs.Prelude.{sum}
use Rattle.std.proofs.lemmas.Bool.{cases_Bool}
use Rattle.std.proofs.lemmas.Option.{slice_get_within}
use Rattle.bd_base.specs.declared.journal.At.{At}
use Rattle.bd_base.specs.declared.script.Script.{Script}
use Rattle.bd_base.specs.declared.volume.Volume.{Volume}
use Rattle.bd_entry.specs.Actions.{has_begun}
use Rattle.bd_entry.specs.Calls.{Place, call_at, calls_of}
use Rattle.bd_entry.proofs.HistoryLaws.{process_there}
use Rattle.bd_turns.specs.Processors.{running_of}
use Rattle.bd_turns.specs.Reached.{IsReached}
use Rattle.bd_turns.specs.Rest.{AreWithinTurns, turns_left}
use Rattle.bd_turns.specs.State.{Progress, State, new_progress, progress_of, running}
use Rattle.bd_turns.specs.Turns.{Acting, LowersRest, Nothing, Outcome, Waiting, answer_in, outcome_of, process_count, rest_of, state_after, turns_per_call}
use Rattle.bd_turns.proofs.Cases.{Effective}
use Rattle.bd_turns.proofs.EffectiveOutcomes.{IsOfKind, outcomes_are_of_kinds}
use Rattle.bd_turns.proofs.SpentTurns.{Spends, effective_spends}
use Rattle.bd_turns.proofs.Sums.{changed_sum, sum_at, sum_below_by, sum_from, sum_times}
use Rattle.bd_turns.specs.Progress.{RestFalls}
use Rattle.bd_turns.proofs.RunningPlaces.{runs_at}

-- how many calls of a process have not ended, and how many turns were used of the running one
abbrev open_calls : Script → State → ℕ → ℕ
open_calls script m i = length (calls_of script i) - (progress_of m i).ended

abbrev used_of : State → ℕ → ℕ
used_of m i = (progress_of m i).used

-- a running call is one that has not ended
running_below : (m : State) (i : ℕ) (p : Place) → running m i ≡ Some p → (progress_of m i).ended < length (calls_of m.script i)
running_below m i p is =
    let at = runs_at m i p is in
    let called : call_at m.script p.at ≡ Some p.call = at.called in
    subst (λ (a : At). a.call < length (calls_of m.script a.process)) at.at_is
    (slice_get_within (calls_of m.script p.at.process) p.at.call p.call called)

-- a running call took fewer turns than the rest counts for it
used_below : (m : State) → AreWithinTurns m → (i : ℕ) (p : Place) → running m i ≡ Some p → used_of m i < turns_per_call
used_below m within i p is =
    ⊎_elim
    (λ begun. let bound : used_of m i + turns_left m p ≤ 24577 = within.within i p is begun in omega arith)
    (λ new. let none : used_of m i ≡ 0 = (within.new i p is new).0 in omega arith)
    (cases_Bool (has_begun (running_of m p)))

-- so of each process
used_within : (m : State) → AreWithinTurns m → (i : ℕ) → used_of m i ≤ turns_per_call * open_calls m.script m i
used_within m within i = by (running m i) refl
  where
    by : (o : Option Place) → running m i ≡ o → used_of m i ≤ turns_per_call * open_calls m.script m i
    by None none = let zero_used : used_of m i ≡ 0 = within.none i none in omega arith
    by (Some p) is =
        let below : (progress_of m i).ended < length (calls_of m.script i) = running_below m i p is in
        let used : used_of m i < turns_per_call = used_below m within i p is in
        omega arith

-- the turns used of all calls by the processes' numbers
used_sum : (m : State) → sum (map (λ (progress : Progress). progress.used) m.processes) ≡ sum_from (used_of m) 0 (length m.processes)
used_sum m =
    sym (sum_at (λ (progress : Progress). progress.used) new_progress m.processes (used_of m) 0
    (λ i below. ap (used_of m) (let start : 0 + i ≡ i = omega arith in start)))

-- an effective turn lowers the rest
spending_lowers : (v : Volume) (m next : State) (p : Place) → IsReached v m → AreWithinTurns m → Spends m next p → rest_of next < rest_of m
spending_lowers v m next p reached within spends =
    let q : ℕ = p.at.process in
    let count : ℕ = process_count m in
    let s : Script = m.script in
    let same_count : length m.processes ≡ count = reached.sound.calls.processes.progress in
    let below : (progress_of m q).ended < length (calls_of s q) = running_below m q p spends.runs in
    let used : used_of m q < 25000 = used_below m within q p spends.runs in
    let there : q < count = process_there s p.at p.call (runs_at m q p spends.runs).called in
    let open_old : ℕ = sum_from (open_calls s m) 0 count in
    let open_new : ℕ = sum_from (open_calls s next) 0 count in
    let used_old : ℕ = sum_from (used_of m) 0 count in
    let used_new : ℕ = sum_from (used_of next) 0 count in
    let is_old : rest_of m ≡ 25000 * open_old - used_old =
    ap (λ (k : ℕ). 25000 * open_old - k) (used_sum m ∙ ap (sum_from (used_of m) 0) same_count) in
    let is_new : rest_of next ≡ 25000 * open_new - used_new =
    ap (λ (script : Script). 25000 * sum_from (open_calls script next) 0 (length script.processes) - sum (map (λ (g : Progress). g.used) next.processes))
    spends.script
    ∙ ap (λ (k : ℕ). 25000 * open_new - k) (used_sum next ∙ ap (sum_from (used_of next) 0) (spends.count ∙ same_count)) in
    let opens : open_new + open_calls s m q ≡ open_old + open_calls s next q =
    changed_sum (open_calls s m) (open_calls s next) 0 count q (omega arith) (omega arith)
    (λ i differ. ap (λ (g : Progress). length (calls_of s i) - g.ended) (spends.others i differ)) in
    let uses : used_new + used_of m q ≡ used_old + used_of next q =
    changed_sum (used_of m) (used_of next) 0 count q (omega arith) (omega arith)
    (λ i differ. ap (λ (g : Progress). g.used) (spends.others i differ)) in
    let room : used_old + 1 ≤ 25000 * open_old =
    subst (λ (k : ℕ). used_old + 1 ≤ k) (sum_times (open_calls s m) 25000 0 count)
    (sum_below_by (used_of m) (λ i. 25000 * open_calls s m i) 0 count q (omega arith) (omega arith) (used_within m within) (omega arith)) in
    let less : 25000 * open_new - used_new < 25000 * open_old - used_old =
    ⊎_elim
    (λ ended.
    let next_ended : (progress_of next q).ended ≡ (progress_of m q).ended + 1 = ended.0 in
    let next_used : used_of next q ≡ 0 = ended.1 in
    omega arith)
    (λ goes_on.
    let next_ended : (progress_of next q).ended ≡ (progress_of m q).ended = goes_on.0 in
    let next_used : used_of next q ≡ used_of m q + 1 = goes_on.1 in
    omega arith)
    spends.own in
    omega (arith, is_old, is_new, less)

outcome_lowers : (m : State) (o : Outcome) → IsOfKind m o → ((next : State) → Effective m next → rest_of next < rest_of m) →
    LowersRest (answer_in o) m (state_after m o)
outcome_lowers m Nothing of lowers = refl
outcome_lowers m (Waiting wait) of lowers = refl
outcome_lowers m (Acting row next added) of lowers = lowers next of

pub rest_falls : RestFalls
rest_falls v m actor reached is =
    outcome_lowers m (outcome_of m actor) (outcomes_are_of_kinds m actor)
    (λ next effective.
    let spends = effective_spends v m next reached effective in
    spending_lowers v m next spends.0 reached reached.within spends.1)
