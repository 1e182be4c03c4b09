-- What each turn leaves as it was: the script, and the entries that the journal has.
use Rattle.std.proofs.Common.{◌≡◌, ℕ, List, [], ◌∷◌, ◌++◌, Option, None, Some, refl, sym, ap, ◌∙◌, append_assoc}
use Rattle.std.specs.Option.{option_to_list}
use Rattle.std.proofs.lemmas.List.{append-nil}
use Rattle.bd_entry.specs.declared.entry.Entry.{Entry}
use Rattle.bd_entry.specs.Calls.{Place}
use Rattle.bd_turns.specs.declared.turn.Turn.TheVariants.{Did}
use Rattle.bd_turns.specs.Course.{visible}
use Rattle.bd_turns.specs.Engines as engines
use Rattle.bd_turns.specs.Engines.{Invalidation, Step, engine_step, invalidation_of}
use Rattle.bd_turns.specs.Laws.{OtherTurnsChangeNothing, RunsOnlyAdd, ScriptsStay, TurnsOnlyAdd}
use Rattle.bd_turns.specs.Processors as processors
use Rattle.bd_turns.specs.Processors.{Action, next_action}
use Rattle.bd_turns.specs.State.{State}
use Rattle.bd_turns.specs.Turns.{Outcome, Nothing, Waiting, Acting, after_step, after_turn, answer_in, entries_added, outcome_of, outcome_of_action, outcome_of_invalidation, state_after, visible_of}
use Rattle.bd_turns.proofs.Cases.{each_outcome}

-- an outcome adds its entries at the end of the journal, and leaves the script
record Grows (m : State) (outcome : Outcome) : Type 0 where
  journal : (state_after m outcome).journal ≡ m.journal ++ entries_added outcome
  script : (state_after m outcome).script ≡ m.script

nothing_grows : (m : State) → Grows m Nothing
nothing_grows m = record { journal = sym (append-nil m.journal); script = refl }

action_grows : (m : State) (p : Place) (action : Action) → Grows m (outcome_of_action m p action)
action_grows m p (processors.Adds row entry) = record { journal = refl; script = refl }
action_grows m p (processors.Posts key) = record { journal = sym (append-nil m.journal); script = refl }
action_grows m p (processors.Submits piece) = record { journal = sym (append-nil m.journal); script = refl }
action_grows m p processors.Polls = record { journal = sym (append-nil m.journal); script = refl }
action_grows m p (processors.WaitsFor wait) = record { journal = sym (append-nil m.journal); script = refl }

step_grows : (m : State) (p : Place) (step : Step) →
    Grows m (Acting step.row (after_step m p step) (option_to_list step.entry))
step_grows m p step = of_entry step.entry
  where
    of_entry : (entry : Option Entry) → Grows m (Acting step.row (after_step m p (record step { entry = entry })) (option_to_list entry))
    of_entry None = record { journal = sym (append-nil m.journal); script = refl }
    of_entry (Some entry) = record { journal = refl; script = refl }

invalidation_grows : (m : State) (p : Place) (invalidation : Invalidation) →
    Grows m (outcome_of_invalidation m p invalidation)
invalidation_grows m p (engines.Changes row tables) = record { journal = sym (append-nil m.journal); script = refl }
invalidation_grows m p (engines.Ends entry tables) = record { journal = refl; script = refl }
invalidation_grows m p (engines.WaitsFor wait) = record { journal = sym (append-nil m.journal); script = refl }

turn_grows : (m : State) (actor : ℕ) → Grows m (outcome_of m actor)
turn_grows m =
    each_outcome m (Grows m)
    (record {
      nothing = nothing_grows m;
      action = λ p is action acting. action_grows m p action;
      step = λ p is step acting. step_grows m p step;
      invalidation = λ p is invalidation acting. invalidation_grows m p invalidation;
    })

pub turns_only_add : TurnsOnlyAdd
turns_only_add m actor = (turn_grows m actor).journal

pub scripts_stay : ScriptsStay
scripts_stay m actor = (turn_grows m actor).script

pub runs_only_add : RunsOnlyAdd
runs_only_add m [] = sym (append-nil m.journal)
runs_only_add m (event ∷ events) =
    runs_only_add (after_turn m event.actor) events
    ∙ ap (λ (front : List Entry). front ++ visible (after_turn m event.actor) events) (turns_only_add m event.actor)
    ∙ append_assoc m.journal (visible_of m event.actor) (visible (after_turn m event.actor) events)

-- an outcome that does nothing leaves the state
idle : (m : State) (outcome : Outcome) → ((row : _) → ¬ (answer_in outcome ≡ Did row)) → state_after m outcome ≡ m
idle m Nothing none = refl
idle m (Waiting wait) none = refl
idle m (Acting row next added) none = absurd (none row refl)

pub other_turns_change_nothing : OtherTurnsChangeNothing
other_turns_change_nothing m actor none = idle m (outcome_of m actor) none
