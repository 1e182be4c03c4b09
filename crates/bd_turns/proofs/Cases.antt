-- The cases of an effective turn.
use Rattle.std.proofs.Common.{◌≡◌, ℕ, ◌*◌, ◌-◌, Bool, true, false, Option, None, Some, cond, refl, sym, ap, ◌∙◌}
use Rattle.std.specs.Prelude.{nat_lt}
use Rattle.std.proofs.lemmas.Option.{none-some, same_Some}
use Rattle.std.specs.Option.{option_map, option_map_or, option_to_list}
use Rattle.bd_entry.specs.declared.entry.Entry.{Entry}
use Rattle.bd_entry.specs.Calls.{Place, call_at}
use Rattle.bd_tables.specs.State.{TableState}
use Rattle.bd_turns.specs.declared.turn.Row.{Row}
use Rattle.bd_turns.specs.Engines as engines
use Rattle.bd_turns.specs.Engines.{Invalidation, Step, engine_step, invalidation_of}
use Rattle.bd_turns.specs.Processors as processors
use Rattle.bd_turns.specs.Processors.{Action, next_action}
use Rattle.bd_turns.specs.State.{State, place_of, running, running_at}
use Rattle.bd_turns.specs.Turns.{Outcome, Nothing, Acting, outcome_of, after_adding, after_effect, after_ending, after_polling, after_posting, after_step, after_submitting, after_turn, engine_outcome, invalidation_outcome, outcome_of_action, outcome_of_invalidation, posting_place, process_count, processor_outcome, state_after}

-- ---- the running call of a process

-- the place of the running call of a process is of that process
pub running_process : (m : State) (process : ℕ) (p : Place) → running m process ≡ Some p → p.at.process ≡ process
running_process m process p is = by (call_at m.script (running_at m process)) is
  where
    by : (call : Option _) → option_map (place_of m (running_at m process)) call ≡ Some p → p.at.process ≡ process
    by None is = absurd (none-some p is)
    by (Some call) is =
        sym (ap (λ (q : Place). q.at.process) (same_Some (place_of m (running_at m process) call) p is))

-- the running call of a process, at a place of that process
pub running_there : (m : State) (process : ℕ) (p : Place) → running m process ≡ Some p → running m p.at.process ≡ Some p
running_there m process p is = ap (running m) (running_process m process p is) ∙ is

-- ---- the outcome of each kind of turn

-- this holds of an outcome of nothing, and of that of each kind of turn
pub record EachOutcome (m : State) (Holds : Outcome → Type 0) : Type 0 where
  pub nothing : Holds Nothing
  pub action : (p : Place) → running m p.at.process ≡ Some p → (action : Action) → next_action m p ≡ Some action →
      Holds (outcome_of_action m p action)
  pub step : (p : Place) → running m p.at.process ≡ Some p → (step : Step) → engine_step m p ≡ Some step →
      Holds (Acting step.row (after_step m p step) (option_to_list step.entry))
  pub invalidation : (p : Place) → posting_place m ≡ Some p → (invalidation : Invalidation) →
      invalidation_of m.tables m.posted ≡ Some invalidation → Holds (outcome_of_invalidation m p invalidation)

of_option : {X : Type 0} (Holds : Outcome → Type 0) → Holds Nothing → (f : X → Outcome) (slot : Option X) →
    ((x : X) → slot ≡ Some x → Holds (f x)) → Holds (option_map_or f slot Nothing)
of_option Holds nothing f None each = nothing
of_option Holds nothing f (Some x) each = each x refl

of_cond : (Holds : Outcome → Type 0) (first : Bool) (one other : Outcome) → Holds one → Holds other → Holds (cond first one other)
of_cond Holds true one other a b = a
of_cond Holds false one other a b = b

-- then it holds of the outcome of each actor
module _ (m : State) (Holds : Outcome → Type 0) (each : EachOutcome m Holds) where
  of_processor : (process : ℕ) → Holds (processor_outcome m process)
  of_processor process =
      of_option Holds each.nothing (λ p. option_map_or (outcome_of_action m p) (next_action m p) Nothing) (running m process)
      (λ p is. of_option Holds each.nothing (outcome_of_action m p) (next_action m p) (each.action p (running_there m process p is)))

  of_engine : (process : ℕ) → Holds (engine_outcome m process)
  of_engine process =
      let after : Place → Step → Outcome = λ p step. Acting step.row (after_step m p step) (option_to_list step.entry) in
      of_option Holds each.nothing (λ p. option_map_or (after p) (engine_step m p) Nothing) (running m process)
      (λ p is. of_option Holds each.nothing (after p) (engine_step m p) (each.step p (running_there m process p is)))

  of_invalidations : Holds (invalidation_outcome m)
  of_invalidations =
      of_option Holds each.nothing (λ p. option_map_or (outcome_of_invalidation m p) (invalidation_of m.tables m.posted) Nothing) (posting_place m)
      (λ p is. of_option Holds each.nothing (outcome_of_invalidation m p) (invalidation_of m.tables m.posted) (each.invalidation p is))

  pub each_outcome : (actor : ℕ) → Holds (outcome_of m actor)
  each_outcome actor =
      let engine : ℕ = actor - process_count m in
      let is_engine : Bool = nat_lt actor (2 * process_count m) in
      of_cond Holds (nat_lt actor (process_count m)) (processor_outcome m actor)
      (cond is_engine (engine_outcome m engine) (invalidation_outcome m)) (of_processor actor)
      (of_cond Holds is_engine (engine_outcome m engine) (invalidation_outcome m) (of_engine engine) of_invalidations)

-- ---- effective turns

-- the state that each kind of effective turn leads to
pub data Effective (m : State) : State → Type 0 where
  adds : (p : Place) (row : Row) (entry : Entry) → running m p.at.process ≡ Some p →
      next_action m p ≡ Some (processors.Adds row entry) → Effective m (after_adding m p row entry)
  posts : (p : Place) (key : _) → running m p.at.process ≡ Some p →
      next_action m p ≡ Some (processors.Posts key) → Effective m (after_posting m p (record { key = key; by = p.at }))
  submits : (p : Place) (piece : ℕ) → running m p.at.process ≡ Some p →
      next_action m p ≡ Some (processors.Submits piece) → Effective m (after_submitting m p piece)
  polls : (p : Place) → running m p.at.process ≡ Some p →
      next_action m p ≡ Some processors.Polls → Effective m (after_polling m p)
  steps : (p : Place) (step : Step) → running m p.at.process ≡ Some p → engine_step m p ≡ Some step →
      Effective m (after_step m p step)
  changes : (p : Place) (row : Row) (tables : TableState) → posting_place m ≡ Some p →
      invalidation_of m.tables m.posted ≡ Some (engines.Changes row tables) →
      Effective m (after_effect (record m { tables = tables }) p)
  ends : (p : Place) (entry : Entry) (tables : TableState) → posting_place m ≡ Some p →
      invalidation_of m.tables m.posted ≡ Some (engines.Ends entry tables) →
      Effective m (after_ending m p entry tables)

-- ---- the cases of a turn

-- a turn leaves the state, or is effective
pub data Leads (m next : State) : Type 0 where
  stays : next ≡ m → Leads m next
  acts : Effective m next → Leads m next

of_action : (m : State) (p : Place) → running m p.at.process ≡ Some p → (action : Action) →
    next_action m p ≡ Some action → Leads m (state_after m (outcome_of_action m p action))
of_action m p is (processors.Adds row entry) acting = acts (adds p row entry is acting)
of_action m p is (processors.Posts key) acting = acts (posts p key is acting)
of_action m p is (processors.Submits piece) acting = acts (submits p piece is acting)
of_action m p is processors.Polls acting = acts (polls p is acting)
of_action m p is (processors.WaitsFor wait) acting = stays refl

of_invalidation : (m : State) (p : Place) → posting_place m ≡ Some p → (invalidation : Invalidation) →
    invalidation_of m.tables m.posted ≡ Some invalidation →
    Leads m (state_after m (outcome_of_invalidation m p invalidation))
of_invalidation m p is (engines.Changes row tables) acting = acts (changes p row tables is acting)
of_invalidation m p is (engines.Ends entry tables) acting = acts (ends p entry tables is acting)
of_invalidation m p is (engines.WaitsFor wait) acting = stays refl

-- a turn leaves the state or is one of the effective ones
pub turn_leads : (m : State) (actor : ℕ) → Leads m (after_turn m actor)
turn_leads m =
    each_outcome m (λ (o : Outcome). Leads m (state_after m o))
    (record {
      nothing = stays refl;
      action = of_action m;
      step = λ p is step acting. acts (steps p step is acting);
      invalidation = of_invalidation m;
    })
