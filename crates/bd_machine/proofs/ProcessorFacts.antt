-- What is known of a process as its processor takes a turn.
use Rattle.std.proofs.Common.{◌≡◌, ℕ, ◌*◌, ◌-◌, ◌<◌, ◌≤◌, cond, [], length, Option, None, Some, refl, sym, ap, ◌∙◌, subst, arith, ⊎_elim}
use Rattle.std.specs.Prelude.{nat_lt, slice_get}
use Rattle.std.specs.Option.{option_map_or}
use Rattle.std.proofs.lemmas.Bool.{cases_Bool, cond-true, lt-ltb}
use Rattle.std.proofs.lemmas.List.{append-nil}
use Rattle.std.proofs.lemmas.Option.{slice_get_within}
use Rattle.bd_base.specs.declared.script.Process.{Process as ScriptProcess}
use Rattle.bd_base.specs.declared.script.Script.{Script}
use Rattle.bd_base.specs.declared.volume.Volume.{Volume}
use Rattle.bd_base.specs.Scripts.{IsProcess, IsWithinLimits}
use Rattle.bd_entry.specs.Actions.{has_begun}
use Rattle.bd_entry.specs.Calls.{Place, call_at, calls_of}
use Rattle.bd_entry.proofs.CallPieces.{All-slice_get}
use Rattle.bd_machine.specs.declared.parts.Parts.{Parts}
use Rattle.bd_machine.specs.Logs.{LogState}
use Rattle.bd_machine.specs.Shows.{Shows}
use Rattle.bd_machine.specs.Turns.{AreFew, TookTurn}
use Rattle.bd_turns.specs.declared.turn.Turn.TheVariants.{Idle, Waits}
use Rattle.bd_turns.specs.declared.turn.Wait.{Wait}
use Rattle.bd_turns.specs.Processors.{Action, next_action, running_of}
use Rattle.bd_turns.specs.Reached.{IsReached}
use Rattle.bd_turns.specs.State.{Progress, State, progress_of, running}
use Rattle.bd_turns.specs.Turns.{Nothing, Outcome, Waiting, answer_in, engine_outcome, invalidation_outcome, outcome_of, outcome_of_action, process_count, processor_outcome, state_after}
use Rattle.bd_turns.proofs.Acting.{process_within}
use Rattle.bd_turns.proofs.RunningPlaces.{runs_at}
use Rattle.bd_tables.specs.declared.sides.Tables as sides

-- ---- the outcome of a processor's turn

of_processor : (m : State) (process : ℕ) → process < process_count m → outcome_of m process ≡ processor_outcome m process
of_processor m process within =
    cond-true (nat_lt process (process_count m)) (processor_outcome m process)
    (cond (nat_lt process (2 * process_count m)) (engine_outcome m (process - process_count m)) (invalidation_outcome m))
    (lt-ltb process (process_count m) within)

-- the turn of a processor comes to what its running call's action, if it has one, does
pub outcome_at : (m : State) (process : ℕ) (p : Place) → running m process ≡ Some p →
    outcome_of m process ≡ option_map_or (outcome_of_action m p) (next_action m p) Nothing
outcome_at m process p is =
    let each : Place → Outcome = λ p. option_map_or (outcome_of_action m p) (next_action m p) Nothing in
    of_processor m process (process_within m process p is) ∙ ap (λ (o : Option Place). option_map_or each o Nothing) is

pub outcome_for : (m : State) (process : ℕ) (p : Place) (action : Action) → running m process ≡ Some p →
    next_action m p ≡ Some action → outcome_of m process ≡ outcome_of_action m p action
outcome_for m process p action is next =
    outcome_at m process p is ∙ ap (λ (o : Option Action). option_map_or (outcome_of_action m p) o Nothing) next

-- it has nothing to do where no call runs
pub outcome_idle : (m : State) (process : ℕ) → process < process_count m → running m process ≡ None →
    outcome_of m process ≡ Nothing
outcome_idle m process within none =
    let each : Place → Outcome = λ p. option_map_or (outcome_of_action m p) (next_action m p) Nothing in
    of_processor m process within ∙ ap (λ (o : Option Place). option_map_or each o Nothing) none

-- ---- turns that change nothing

-- the log tells the same
pub log_step : {T M P : Type 0} {K : sides.Ghosts T P} (script : Script) (x : Parts T M P) (m : State) (log : LogState) → Shows K script x m →
    log.entries ≡ x.log.entries →
    Shows K script (record x { log = log }) m
log_step script x m log shows same = record {
  script_is = shows.script_is;
  disk = shows.disk;
  users = shows.users;
  holders = shows.holders;
  journal = shows.journal ∙ sym same;
  tables = shows.tables;
  posted = shows.posted;
  count = shows.count;
  progresses = shows.progresses;
  each = shows.each;
}

pub took_wait : {T M P : Type 0} {K : sides.Ghosts T P} (script : Script) (x y : Parts T M P) (m : State) (actor : ℕ) (wait : Wait) → Shows K script y m →
    outcome_of m actor ≡ Waiting wait → y.log.events ≡ x.log.events → y.log.turns ≡ x.log.turns →
    TookTurn K script x y m actor (Waits wait)
took_wait {K = K} script x y m actor wait shows is events turns = record {
  shows = subst (λ (o : Outcome). Shows K script y (state_after m o)) (sym is) shows;
  answer = ap answer_in (sym is);
  events = events ∙ sym (append-nil x.log.events);
  turns = turns;
}

pub took_idle : {T M P : Type 0} {K : sides.Ghosts T P} (script : Script) (x y : Parts T M P) (m : State) (actor : ℕ) → Shows K script y m →
    outcome_of m actor ≡ Nothing → y.log.events ≡ x.log.events → y.log.turns ≡ x.log.turns →
    TookTurn K script x y m actor Idle
took_idle {K = K} script x y m actor shows is events turns = record {
  shows = subst (λ (o : Outcome). Shows K script y (state_after m o)) (sym is) shows;
  answer = ap answer_in (sym is);
  events = events ∙ sym (append-nil x.log.events);
  turns = turns;
}

-- ---- how many calls and turns there are

-- no call of a script within the limits has a number above that of all calls
calls_few : (script : Script) (process : ℕ) → IsWithinLimits script → length (calls_of script process) ≤ 256
calls_few script process limits = by (slice_get script.processes process) refl
  where
    by : (o : Option ScriptProcess) → slice_get script.processes process ≡ o →
        length (option_map_or (λ (p : ScriptProcess). p.calls) o []) ≤ 256
    by None none = omega arith
    by (Some p) is = (All-slice_get IsProcess script.processes process p limits.processes is).count

-- a running call is one of its process's calls, and took few turns so far
pub record IsCounted (progress : Progress) : Type 0 where
  pub ended : progress.ended < 256
  pub used : progress.used < 25000

pub is_counted : (v : Volume) (m : State) (process : ℕ) (p : Place) → IsReached v m → running m process ≡ Some p →
    IsCounted (progress_of m process)
is_counted v m process p reached is =
    let runs = runs_at m process p is in
    let progress = progress_of m process in
    let called = subst (λ (at : _). call_at m.script at ≡ Some p.call) runs.at_is runs.called in
    let below : progress.ended < length (calls_of m.script process) =
    slice_get_within (calls_of m.script process) progress.ended p.call called in
    let few = calls_few m.script process reached.sound.calls.limits in
    record {
      ended = omega (arith, below, few);
      used =
          ⊎_elim
          (λ begun. let within = reached.within.within process p is begun in omega (arith, within))
          (λ new. let none = (reached.within.new process p is new).0 in omega (arith, none))
          (cases_Bool (has_begun (running_of m p)));
    }

-- so it is with what the parts keep of them
pub few_shown : {T M P : Type 0} {K : sides.Ghosts T P} (script : Script) (x : Parts T M P) (m : State) (process : ℕ) → Shows K script x m → IsCounted
    (progress_of m process) →
    AreFew x process
few_shown script x m process shows counted = record {
  calls = λ y there.
      let same : (progress_of m process).ended ≡ y.ended =
      ap (λ (q : Progress). q.ended) (shows.each process y there).progress in
      let below = counted.ended in omega (arith, same, below);
  turns = λ y there.
      let same : (progress_of m process).used ≡ y.used =
      ap (λ (q : Progress). q.used) (shows.each process y there).progress in
      let below = counted.used in omega (arith, same, below);
}
