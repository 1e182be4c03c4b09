-- Only a processor whose call waits for a holder answers so.
use Rattle.std.proofs.Common.{◌≡◌, ◌-◌, ◌*◌, ℕ, Bool, true, false, cond, length, List, [], ◌∷◌, Option, None, Some, refl, sym, ap, ◌∙◌}
use Rattle.std.specs.Prelude.{nat_eq, nat_lt, not, position}
use Rattle.std.specs.FinMap as fin
use Rattle.std.specs.Option.{option_and_then, option_map, option_map_or, option_to_list}
use Rattle.std.proofs.lemmas.Bool.{false≢true}
use Rattle.std.proofs.lemmas.Option.{none-some, same_Some}
use Rattle.bd_base.specs.declared.key.Key.{Key}
use Rattle.bd_base.specs.declared.limits.TheConstants.{POSTS}
use Rattle.bd_entry.specs.declared.act.Act.{Act}
use Rattle.bd_entry.specs.declared.act.Act.TheVariants as acts
use Rattle.bd_entry.specs.declared.entry.Entry.{Entry}
use Rattle.bd_entry.specs.Actions.{entry_of_act, is_none_of, next_act}
use Rattle.bd_entry.specs.Calls.{Place}
use Rattle.bd_tables.specs.declared.state.Right.{Right}
use Rattle.bd_tables.specs.declared.state.RightState.{RightState}
use Rattle.bd_tables.specs.declared.state.RightState.TheVariants as states
use Rattle.bd_entry.proofs.NextActs.{then_from}
use Rattle.bd_tables.specs.Effects as effects
use Rattle.bd_tables.specs.State.{engines_in}
use Rattle.bd_turns.specs.declared.turn.Row.TheVariants as rows
use Rattle.bd_turns.specs.declared.turn.Turn.{Turn}
use Rattle.bd_turns.specs.declared.turn.Turn.TheVariants.{Waits}
use Rattle.bd_turns.specs.declared.turn.Wait.{Wait}
use Rattle.bd_turns.specs.declared.turn.Wait.TheVariants as waits
use Rattle.bd_turns.specs.Engines as engines
use Rattle.bd_turns.specs.Engines.{Invalidation, Step, detach, drain, engine_step, invalidate, invalidation_of, sweep_or_detach}
use Rattle.bd_turns.specs.Processors as processors
use Rattle.bd_turns.specs.Processors.{Action, action_for, add_entry, clear, least_outstanding, next_action, poll, post, revocation, row_of_entry, running_of, uncleared, unposted}
use Rattle.bd_turns.specs.State.{Posted, State, holder_of, outstanding, progress_of, running}
use Rattle.bd_turns.specs.Turns.{Acting, Nothing, Outcome, Waiting, after_step, answer_in, answer_of, engine_outcome, invalidation_outcome, outcome_of_action, outcome_of_invalidation, posting_place, process_count, processor_outcome}
use Rattle.bd_turns.specs.Waiting.{IsHeldByAnother}
use Rattle.bd_turns.proofs.BusyHolders.{busy_names, holder_holds, next_waits}
use Rattle.bd_turns.proofs.Cases.{running_process}

-- whether a wait is for a holder
abbrev is_busy_wait : Wait → Bool
is_busy_wait (waits.Busy file holder) = true
is_busy_wait wait = false

-- whether an action is such a wait, and an outcome
abbrev is_busy_action : Action → Bool
is_busy_action (processors.WaitsFor wait) = is_busy_wait wait
is_busy_action action = false

abbrev is_busy_outcome : Outcome → Bool
is_busy_outcome (Waiting wait) = is_busy_wait wait
is_busy_outcome outcome = false

-- ---- actions

post_other : (m : State) (key : Key) → is_busy_action (post m key) ≡ false
post_other m key = by (nat_lt (length m.posted) POSTS)
  where
    by : (b : Bool) → is_busy_action (cond b (processors.Posts key) (processors.WaitsFor (waits.QueueFull POSTS))) ≡ false
    by true = refl
    by false = refl

revocation_other : (m : State) (p : Place) (keys : List Key) → is_busy_action (revocation m p keys) ≡ false
revocation_other m p keys = by (unposted m keys) refl (uncleared m keys) refl
  where
    posts : (key : Key) → unposted m keys ≡ Some key → revocation m p keys ≡ post m key
    posts key is = rw is refl

    clears : (key : Key) → unposted m keys ≡ None → uncleared m keys ≡ Some key → revocation m p keys ≡ clear p key
    clears key none is = rw none (rw is refl)

    by : (u : Option Key) → unposted m keys ≡ u → (c : Option Key) → uncleared m keys ≡ c → is_busy_action (revocation m p keys) ≡ false
    by (Some key) first c next = ap is_busy_action (posts key first) ∙ post_other m key
    by None first (Some key) next = ap is_busy_action (clears key first next)
    by None first None next = rw first (rw next refl)

-- the action of an act is such a wait only where the act is
busy_action : (m : State) (p : Place) (act : Act) (file holder : ℕ) → action_for m p act ≡ Some (processors.WaitsFor (waits.Busy file holder)) →
    act ≡ acts.Busy file holder
busy_action m p act file holder is = by act is
  where
    wanted : Action
    wanted = processors.WaitsFor (waits.Busy file holder)

    named : Action → Act
    named (processors.WaitsFor (waits.Busy file holder)) = acts.Busy file holder
    named action = acts.Poll

    never : (action : Action) → is_busy_action action ≡ false → Some action ≡ Some wanted → {X : Type 0} → X
    never action other said = absurd (false≢true (sym other ∙ ap is_busy_action (same_Some action wanted said)))

    adds : (o : Option Entry) → option_map (λ entry. processors.Adds (row_of_entry entry) entry) o ≡ Some wanted → {X : Type 0} → X
    adds None said = absurd (none-some wanted said)
    adds (Some entry) said = never (processors.Adds (row_of_entry entry) entry) refl said

    polls : (b : Bool) (wait : ℕ) → Some (cond b (processors.WaitsFor (waits.Completion wait)) processors.Polls) ≡ Some wanted → {X : Type 0} → X
    polls true wait said = never (processors.WaitsFor (waits.Completion wait)) refl said
    polls false wait said = never processors.Polls refl said

    by : (act : Act) → action_for m p act ≡ Some wanted → act ≡ acts.Busy file holder
    by (acts.Busy f h) said = ap named (same_Some (processors.WaitsFor (waits.Busy f h)) wanted said)
    by (acts.Revoke keys) said = never (revocation m p keys) (revocation_other m p keys) said
    by (acts.Submit piece) said = never (processors.Submits piece) refl said
    by acts.Poll said =
        let progress = progress_of m p.at.process in
        polls (is_none_of progress.completed) (least_outstanding (outstanding progress)) said
    by (acts.Refuse piece reason) said = adds (entry_of_act m.store p (acts.Refuse piece reason)) said
    by (acts.Opened file fd) said = adds (entry_of_act m.store p (acts.Opened file fd)) said
    by acts.Created said = adds (entry_of_act m.store p acts.Created) said
    by (acts.Attach part) said = adds (entry_of_act m.store p (acts.Attach part)) said
    by (acts.Mapped count) said = adds (entry_of_act m.store p (acts.Mapped count)) said
    by (acts.Extend file to) said = adds (entry_of_act m.store p (acts.Extend file to)) said
    by (acts.Release file) said = adds (entry_of_act m.store p (acts.Release file)) said
    by (acts.Access number way) said = adds (entry_of_act m.store p (acts.Access number way)) said
    by (acts.Sized size) said = adds (entry_of_act m.store p (acts.Sized size)) said
    by (acts.SizeRead size) said = adds (entry_of_act m.store p (acts.SizeRead size)) said
    by acts.Closed said = adds (entry_of_act m.store p acts.Closed) said
    by acts.Unlinked said = adds (entry_of_act m.store p acts.Unlinked) said

-- ---- actors

engine_other : (m : State) (process : ℕ) → is_busy_outcome (engine_outcome m process) ≡ false
engine_other m process = by (running m process)
  where
    of : (p : Place) (o : Option Step) →
        is_busy_outcome (option_map_or (λ (step : Step). Acting step.row (after_step m p step) (option_to_list step.entry)) o Nothing) ≡ false
    of p None = refl
    of p (Some step) = refl

    by : (o : Option Place) →
        is_busy_outcome
        (option_map_or
        (λ p. option_map_or (λ (step : Step). Acting step.row (after_step m p step) (option_to_list step.entry)) (engine_step m p) Nothing)
        o Nothing)
        ≡ false
    by None = refl
    by (Some p) = of p (engine_step m p)

invalidation_other : (m : State) → is_busy_outcome (invalidation_outcome m) ≡ false
invalidation_other m = by (posting_place m)
  where
    of : (p : Place) (o : Option Invalidation) → ((i : Invalidation) → o ≡ Some i → is_busy_outcome (outcome_of_invalidation m p i) ≡ false) →
        is_busy_outcome (option_map_or (outcome_of_invalidation m p) o Nothing) ≡ false
    of p None each = refl
    of p (Some i) each = each i refl

    drains : (p : Place) (key : Key) → is_busy_outcome (outcome_of_invalidation m p (drain m.tables key)) ≡ false
    drains p key = by_count (nat_eq (engines_in m.tables.walks key) 0)
      where
        by_count : (b : Bool) →
            is_busy_outcome
            (outcome_of_invalidation m p
            (cond b (engines.Changes rows.Drain (effects.drain m.tables key))
            (engines.WaitsFor (waits.InFlight key (engines_in m.tables.walks key)))))
            ≡ false
        by_count true = refl
        by_count false = refl

    sweeps : (p : Place) (post : Posted) (swept : List Bool) → is_busy_outcome (outcome_of_invalidation m p (sweep_or_detach m.tables post swept)) ≡ false
    sweeps p post swept = by_line (position not swept)
      where
        by_line : (o : Option ℕ) →
            is_busy_outcome
            (outcome_of_invalidation m p
            (option_map_or (λ line. engines.Changes (rows.Sweep line) (effects.sweep m.tables line post.key)) o (detach m.tables post)))
            ≡ false
        by_line None = refl
        by_line (Some line) = refl

    invalidates : (p : Place) (post : Posted) (state : RightState) →
        is_busy_outcome (option_map_or (outcome_of_invalidation m p) (invalidate m.tables post state) Nothing) ≡ false
    invalidates p post states.On = refl
    invalidates p post states.Cleared = drains p post.key
    invalidates p post (states.Drained swept) = sweeps p post swept

    rights : (p : Place) (post : Posted) (o : Option Right) →
        is_busy_outcome
        (option_map_or (outcome_of_invalidation m p) (option_and_then (λ (right : Right). invalidate m.tables post right.state) o) Nothing)
        ≡ false
    rights p post None = refl
    rights p post (Some right) = invalidates p post right.state

    posted : (p : Place) (posts : List Posted) →
        is_busy_outcome (option_map_or (outcome_of_invalidation m p) (invalidation_of m.tables posts) Nothing) ≡ false
    posted p [] = refl
    posted p (post ∷ rest) = rights p post (fin.get m.tables.rights post.key)

    by : (o : Option Place) →
        is_busy_outcome (option_map_or (λ p. option_map_or (outcome_of_invalidation m p) (invalidation_of m.tables m.posted) Nothing) o Nothing) ≡ false
    by None = refl
    by (Some p) = posted p m.posted

-- ---- the law

abbrev wait_in : Turn → Wait
wait_in (Waits wait) = wait
wait_in turn = waits.Completion 0

abbrev is_busy_turn : Turn → Bool
is_busy_turn (Waits wait) = is_busy_wait wait
is_busy_turn turn = false

answered : (outcome : Outcome) → is_busy_turn (answer_in outcome) ≡ is_busy_outcome outcome
answered Nothing = refl
answered (Waiting wait) = refl
answered (Acting row next added) = refl

module _ (m : State) (actor file holder : ℕ) where
  abbrev wanted : Turn
  wanted = Waits (waits.Busy file holder)

  never : {X : Type 0} (outcome : Outcome) → is_busy_outcome outcome ≡ false → answer_in outcome ≡ wanted → X
  never outcome other said = absurd (false≢true (sym other ∙ sym (answered outcome) ∙ ap is_busy_turn said))

  -- an action that is answered so is the wait
  waits_for : (p : Place) (action : Action) → answer_in (outcome_of_action m p action) ≡ wanted →
      action ≡ processors.WaitsFor (waits.Busy file holder)
  waits_for p (processors.WaitsFor wait) said = ap processors.WaitsFor (ap wait_in said)
  waits_for p (processors.Adds row entry) said = never (outcome_of_action m p (processors.Adds row entry)) refl said
  waits_for p (processors.Posts key) said = never (outcome_of_action m p (processors.Posts key)) refl said
  waits_for p (processors.Submits piece) said = never (outcome_of_action m p (processors.Submits piece)) refl said
  waits_for p processors.Polls said = never (outcome_of_action m p processors.Polls) refl said

  of_action : (p : Place) → running m actor ≡ Some p → (o : Option Action) → next_action m p ≡ o →
      answer_in (option_map_or (outcome_of_action m p) o Nothing) ≡ wanted → IsHeldByAnother m actor file holder
  of_action p runs None none said = never Nothing refl said
  of_action p runs (Some action) next said =
      let is : next_action m p ≡ Some (processors.WaitsFor (waits.Busy file holder)) = next ∙ ap Some (waits_for p action said) in
      let from = then_from (action_for m p) (next_act m.store (holder_of m) (running_of m p)) (processors.WaitsFor (waits.Busy file holder)) is in
      let act = from.1 ∙ ap Some (busy_action m p from.0 file holder from.2) in
      let names = busy_names m.store (holder_of m) p file holder (next_waits m.store (holder_of m) (running_of m p) file holder act) in
      record {
        place = p;
        running_is = runs;
        file_is = names.file_is;
        holds = holder_holds m file holder names.holder_is;
        another = λ same. names.another (same ∙ sym (running_process m actor p runs));
      }

  of_place : (o : Option Place) → running m actor ≡ o →
      answer_in (option_map_or (λ p. option_map_or (outcome_of_action m p) (next_action m p) Nothing) o Nothing) ≡ wanted →
      IsHeldByAnother m actor file holder
  of_place None none said = never Nothing refl said
  of_place (Some p) runs said = of_action p runs (next_action m p) refl said

  pub busy_names_the_holder : answer_of m actor ≡ wanted → IsHeldByAnother m actor file holder
  busy_names_the_holder is = by (nat_lt actor (process_count m)) (nat_lt actor (2 * process_count m)) is
    where
      engine : ℕ
      engine = actor - process_count m

      by : (first second : Bool) →
          answer_in (cond first (processor_outcome m actor) (cond second (engine_outcome m engine) (invalidation_outcome m))) ≡ wanted →
          IsHeldByAnother m actor file holder
      by true second said = of_place (running m actor) refl said
      by false true said = never (engine_outcome m engine) (engine_other m engine) said
      by false false said = never (invalidation_outcome m) (invalidation_other m) said
