-- The states of a run: a machine can come to each, and its events lead there and show its journal.
use Rattle.std.proofs.Common.{◌≡◌, ℕ, zero, suc, ◌+◌, ◌*◌, ◌-◌, ◌%◌, ◌<◌, ◌≤◌, List, [], ◌∷◌, ◌++◌, length, replicate, refl, sym, ap, ◌∙◌, subst, arith, ⊎_elim}
use Rattle.std.specs.Prelude.{All, nat_lt, slice_index}
use Rattle.std.specs.List.{flat_map}
use Rattle.std.proofs.Math.Nat.{mod-lt}
use Rattle.std.proofs.lemmas.Bool.{cases_lt, cond-false, cond-true, le-ltb, lt-ltb}
use Rattle.std.proofs.lemmas.List.Elements.{All-append, All-get_or, All-head, All-nil, All-replicate, All-tail}
use Rattle.bd_base.specs.declared.script.Item.{Item}
use Rattle.bd_base.specs.declared.script.ScheduleLine.{ScheduleLine}
use Rattle.bd_base.specs.declared.script.Script.{Script}
use Rattle.bd_base.specs.Scripts.{IsItem, IsSchedule, IsWithinLimits}
use Rattle.bd_entry.specs.Store.{Store, start_store}
use Rattle.bd_turns.specs.declared.turn.Event.{Event}
use Rattle.bd_turns.specs.Course.{actor_at, actor_count, after_events, event_at, event_of, events_to, scheduled, scheduled_by, state_at}
use Rattle.bd_turns.specs.CourseLaws.{EventsLeadThere, EventsShowJournals, RunsAreReached, RunsKeepScripts, TurnsAreOfActors}
use Rattle.bd_turns.specs.State.{State, boot_state}
use Rattle.bd_turns.specs.Turns.{Acting, Nothing, Outcome, Waiting, after_turn, answer_in, answer_of, outcome_of, state_after}
use Rattle.bd_turns.proofs.Booting.{boot_is_reached}
use Rattle.bd_turns.proofs.Growing.{runs_only_add, scripts_stay}
use Rattle.bd_turns.proofs.TurnsKept.{turns_keep_it}

-- ---- actors

-- what the items' lists have, the list of all of them has
all_of_flat_map : {X : Type 0} (P : ℕ → Type 0) (Q : X → Type 0) (f : X → List ℕ) → ((x : X) → Q x → All P (f x)) →
    (xs : List X) → All Q xs → All P (flat_map f xs)
all_of_flat_map P Q f each [] all = All-nil P
all_of_flat_map P Q f each (x ∷ xs) all =
    All-append P (f x) (flat_map f xs) (each x (All-head Q x xs all))
    (all_of_flat_map P Q f each xs (All-tail Q x xs all))

module _ (script : Script) (limits : IsWithinLimits script) where
  -- the number is that of an actor of the script
  abbrev IsOne : ℕ → Type 0
  IsOne actor = actor < actor_count script

  of_item : (item : Item) → IsItem (length script.processes) item → All IsOne (replicate item.turns item.actor)
  of_item item is =
      let below = is.actor in
      let one : IsOne item.actor = omega arith in
      All-replicate IsOne item.turns item.actor one

  of_line : (line : ScheduleLine) → IsSchedule (length script.processes) line → All IsOne (scheduled_by line)
  of_line line is =
      all_of_flat_map IsOne (IsItem (length script.processes)) (λ (item : Item). replicate item.turns item.actor)
      of_item line.items is.items

  of_schedule : All IsOne (scheduled script)
  of_schedule =
      all_of_flat_map IsOne (IsSchedule (length script.processes)) scheduled_by of_line script.schedule limits.schedule

-- while the schedule lasts its actors take the turns
pub actor_at-scheduled : (script : Script) (n : ℕ) → n < length (scheduled script) → actor_at script n ≡ slice_index (scheduled script) n
actor_at-scheduled script n before =
    let turns : ℕ = length (scheduled script) in
    cond-true (nat_lt n turns) (slice_index (scheduled script) n) ((n - turns) % actor_count script) (lt-ltb n turns before)

-- and then all of them in rounds
pub actor_at-rounds : (script : Script) (n : ℕ) → length (scheduled script) ≤ n →
    actor_at script n ≡ (n - length (scheduled script)) % actor_count script
actor_at-rounds script n after =
    let turns : ℕ = length (scheduled script) in
    cond-false (nat_lt n turns) (slice_index (scheduled script) n) ((n - turns) % actor_count script) (le-ltb n turns after)

pub turns_are_of_actors : TurnsAreOfActors
turns_are_of_actors script n limits =
    let turns : ℕ = length (scheduled script) in
    ⊎_elim
    (λ before.
    subst (IsOne script limits) (sym (actor_at-scheduled script n before))
    (All-get_or (IsOne script limits) (scheduled script) n 0 before (of_schedule script limits)))
    (λ after.
    subst (IsOne script limits) (sym (actor_at-rounds script n after))
    (mod-lt (n - turns) {m = actor_count script} (omega arith)))
    (cases_lt n turns)

-- ---- states

pub runs_keep_scripts : RunsKeepScripts
runs_keep_scripts start script zero = refl
runs_keep_scripts start script (suc n) =
    scripts_stay (state_at start script n) (actor_at script n) ∙ runs_keep_scripts start script n

pub runs_are_reached : RunsAreReached
runs_are_reached v script zero sound limits = boot_is_reached v script sound limits
runs_are_reached v script (suc n) sound limits =
    let start : Store = start_store v script in
    turns_keep_it v (state_at start script n) (actor_at script n) (runs_are_reached v script n sound limits)
    (subst (λ (s : Script). actor_at script n < 2 * length s.processes + 1) (sym (runs_keep_scripts start script n))
    (turns_are_of_actors script n limits))

-- ---- events

-- events in two parts lead where the first part and then the second lead
after_events-append : (m : State) (front back : List Event) → after_events m (front ++ back) ≡ after_events (after_events m front) back
after_events-append m [] back = refl
after_events-append m (event ∷ front) back = after_events-append (after_turn m event.actor) front back

-- the event of a turn leads where the turn does
event_leads : (m : State) (turn actor : ℕ) → after_events m (event_of turn actor (answer_of m actor)) ≡ after_turn m actor
event_leads m turn actor = of_outcome (outcome_of m actor) refl
  where
    of_outcome : (o : Outcome) → outcome_of m actor ≡ o →
        after_events m (event_of turn actor (answer_in o)) ≡ state_after m o
    of_outcome Nothing is = refl
    of_outcome (Waiting wait) is = refl
    of_outcome (Acting row next added) is = ap (state_after m) is

pub events_lead_there : EventsLeadThere
events_lead_there start script zero = refl
events_lead_there start script (suc n) =
    after_events-append (boot_state start script) (events_to start script n) (event_at start script n)
    ∙ ap (λ (m : State). after_events m (event_at start script n)) (events_lead_there start script n)
    ∙ event_leads (state_at start script n) n (actor_at script n)

pub events_show_journals : EventsShowJournals
events_show_journals start script n =
    sym (runs_only_add (boot_state start script) (events_to start script n))
    ∙ ap (λ (m : State). m.journal) (events_lead_there start script n)
