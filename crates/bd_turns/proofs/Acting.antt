-- Which actor's turn has an effect, where a processor, a device engine or the invalidation engine has something to do.
use Rattle.std.proofs.Common.{◌≡◌, ℕ, ◌+◌, ◌*◌, ◌-◌, ◌<◌, ◌≤◌, false, [], Option, Some, cond, refl, sym, ap, ◌∙◌, arith, ⊎_elim}
use Rattle.std.specs.Prelude.{nat_lt, slice_get}
use Rattle.std.specs.Option.{option_map, option_map_or, option_to_list}
use Rattle.std.proofs.lemmas.Bool.{cond-false, cond-true, false_from_ne_true, lt-ltb, ltb-true}
use Rattle.std.proofs.lemmas.Option.{none-some, slice_get_cases}
use Rattle.bd_base.specs.declared.script.Process.{Process}
use Rattle.bd_entry.specs.Calls.{Place}
use Rattle.bd_turns.specs.declared.turn.Row.{Row}
use Rattle.bd_turns.specs.declared.turn.Turn.TheVariants.{Did}
use Rattle.bd_turns.specs.Engines.{Invalidation, Step, engine_step, invalidation_of}
use Rattle.bd_turns.specs.Processors.{Action, next_action}
use Rattle.bd_turns.specs.State.{State, place_of, running, running_at}
use Rattle.bd_turns.specs.Turns.{Acting, Nothing, Outcome, SomeActorActs, after_step, answer_in, engine_outcome, invalidation_outcome, outcome_of, outcome_of_action, outcome_of_invalidation, posting_place, process_count, processor_outcome}

-- the outcome is an effective turn
abbrev pub DoesAct : Outcome → Type 0
DoesAct outcome = (row : Row) × (answer_in outcome ≡ Did row)

-- ---- processes with running calls

-- a process with a running call is one of the script's
pub process_within : (m : State) (process : ℕ) (p : Place) → running m process ≡ Some p → process < process_count m
process_within m process p is =
    ⊎_elim
    (λ there. there.1)
    (λ past.
    let calls : Option Process → Option Place =
    λ o. option_map (place_of m (running_at m process)) (slice_get (option_map_or (λ (q : Process). q.calls) o []) (running_at m process).call) in
    absurd (none-some p (sym (ap calls past.1) ∙ is)))
    (slice_get_cases m.script.processes process).1

-- ---- the outcome of an actor

acts_as : (m : State) (actor : ℕ) (outcome : Outcome) → actor < 2 * process_count m + 1 → outcome_of m actor ≡ outcome → DoesAct outcome → SomeActorActs m
acts_as m actor outcome within is acts = (actor, acts.0, within, ap answer_in is ∙ acts.1)

processor_is : (m : State) (process : ℕ) → process < process_count m → outcome_of m process ≡ processor_outcome m process
processor_is m process within =
    cond-true (nat_lt process (process_count m)) (processor_outcome m process)
    (cond (nat_lt process (2 * process_count m)) (engine_outcome m (process - process_count m)) (invalidation_outcome m))
    (lt-ltb process (process_count m) within)

not_below : (a b : ℕ) → b ≤ a → nat_lt a b ≡ false
not_below a b least =
    false_from_ne_true (nat_lt a b) (λ below. let lt : a < b = ltb-true a b below in absurd (omega arith))

engine_is : (m : State) (process : ℕ) → process < process_count m → outcome_of m (process_count m + process) ≡ engine_outcome m process
engine_is m process within =
    let count : ℕ = process_count m in
    let actor : ℕ = count + process in
    let back : actor - count ≡ process = omega arith in
    cond-false (nat_lt actor count) (processor_outcome m actor)
    (cond (nat_lt actor (2 * count)) (engine_outcome m (actor - count)) (invalidation_outcome m)) (not_below actor count (omega arith))
    ∙ cond-true (nat_lt actor (2 * count)) (engine_outcome m (actor - count)) (invalidation_outcome m) (lt-ltb actor (2 * count) (omega arith))
    ∙ ap (engine_outcome m) back

invalidation_is : (m : State) → outcome_of m (2 * process_count m) ≡ invalidation_outcome m
invalidation_is m =
    let count : ℕ = process_count m in
    let actor : ℕ = 2 * count in
    cond-false (nat_lt actor count) (processor_outcome m actor)
    (cond (nat_lt actor (2 * count)) (engine_outcome m (actor - count)) (invalidation_outcome m)) (not_below actor count (omega arith))
    ∙ cond-false (nat_lt actor (2 * count)) (engine_outcome m (actor - count)) (invalidation_outcome m) (not_below actor (2 * count) (omega arith))

-- ---- who acts

-- a processor acts whose next action is no wait
pub processor_acts : (m : State) (process : ℕ) (p : Place) (action : Action) → running m process ≡ Some p → next_action m p ≡ Some action →
    DoesAct (outcome_of_action m p action) → SomeActorActs m
processor_acts m process p action is next acts =
    let within = process_within m process p is in
    let each : Place → Outcome = λ p. option_map_or (outcome_of_action m p) (next_action m p) Nothing in
    let same : processor_outcome m process ≡ outcome_of_action m p action =
    ap (λ (o : Option Place). option_map_or each o Nothing) is ∙ ap (λ (o : Option Action). option_map_or (outcome_of_action m p) o Nothing) next in
    acts_as m process (outcome_of_action m p action) (omega arith) (processor_is m process within ∙ same) acts

-- a device engine acts that has a step
pub engine_acts : (m : State) (process : ℕ) (p : Place) (step : Step) → running m process ≡ Some p → engine_step m p ≡ Some step → SomeActorActs m
engine_acts m process p step is next =
    let within = process_within m process p is in
    let after : Place → Step → Outcome = λ p step. Acting step.row (after_step m p step) (option_to_list step.entry) in
    let each : Place → Outcome = λ p. option_map_or (after p) (engine_step m p) Nothing in
    let same : engine_outcome m process ≡ after p step =
    ap (λ (o : Option Place). option_map_or each o Nothing) is ∙ ap (λ (o : Option Step). option_map_or (after p) o Nothing) next in
    acts_as m (process_count m + process) (after p step) (omega arith) (engine_is m process within ∙ same) (step.row, refl)

-- the invalidation engine acts whose step is no wait
pub invalidation_acts : (m : State) (p : Place) (invalidation : Invalidation) → posting_place m ≡ Some p →
    invalidation_of m.tables m.posted ≡ Some invalidation → DoesAct (outcome_of_invalidation m p invalidation) → SomeActorActs m
invalidation_acts m p invalidation is next acts =
    let each : Place → Outcome = λ p. option_map_or (outcome_of_invalidation m p) (invalidation_of m.tables m.posted) Nothing in
    let same : invalidation_outcome m ≡ outcome_of_invalidation m p invalidation =
    ap (λ (o : Option Place). option_map_or each o Nothing) is
    ∙ ap (λ (o : Option Invalidation). option_map_or (outcome_of_invalidation m p) o Nothing) next in
    acts_as m (2 * process_count m) (outcome_of_invalidation m p invalidation) (omega arith) (invalidation_is m ∙ same) acts
