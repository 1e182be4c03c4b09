-- An effective turn is one of the kinds of effective turns.
use Rattle.std.proofs.Common.{◌≡◌, ℕ, Some}
use Rattle.bd_entry.specs.Calls.{Place}
use Rattle.bd_turns.specs.Engines as engines
use Rattle.bd_turns.specs.Engines.{Invalidation, Step, engine_step, invalidation_of}
use Rattle.bd_turns.specs.Processors as processors
use Rattle.bd_turns.specs.Processors.{Action, next_action}
use Rattle.bd_turns.specs.State.{State, running}
use Rattle.bd_turns.specs.Turns.{Outcome, Nothing, Waiting, Acting, outcome_of, outcome_of_action, outcome_of_invalidation, posting_place}
use Rattle.bd_turns.proofs.Cases.{Effective, adds, changes, ends, polls, posts, steps, submits, each_outcome}

-- an outcome that acts is of a kind
abbrev pub IsOfKind : State → Outcome → Type 0
IsOfKind m Nothing = Unit {0}
IsOfKind m (Waiting wait) = Unit {0}
IsOfKind m (Acting row next added) = Effective m next

of_action : (m : State) (p : Place) → running m p.at.process ≡ Some p → (action : Action) → next_action m p ≡ Some action →
    IsOfKind m (outcome_of_action m p action)
of_action m p is (processors.Adds row entry) acting = adds p row entry is acting
of_action m p is (processors.Posts key) acting = posts p key is acting
of_action m p is (processors.Submits piece) acting = submits p piece is acting
of_action m p is processors.Polls acting = polls p is acting
of_action m p is (processors.WaitsFor wait) acting = tt

of_invalidation : (m : State) (p : Place) → posting_place m ≡ Some p → (invalidation : Invalidation) →
    invalidation_of m.tables m.posted ≡ Some invalidation → IsOfKind m (outcome_of_invalidation m p invalidation)
of_invalidation m p is (engines.Changes row tables) acting = changes p row tables is acting
of_invalidation m p is (engines.Ends entry tables) acting = ends p entry tables is acting
of_invalidation m p is (engines.WaitsFor wait) acting = tt

pub outcomes_are_of_kinds : (m : State) (actor : ℕ) → IsOfKind m (outcome_of m actor)
outcomes_are_of_kinds m =
    each_outcome m (IsOfKind m)
    (record {
      nothing = tt;
      action = of_action m;
      step = λ p is step acting. steps p step is acting;
      invalidation = of_invalidation m;
    })
