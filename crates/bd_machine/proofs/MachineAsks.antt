-- What the calls of an engine leave of a machine.
use Rattle.std.proofs.Common.{◌≡◌, ℕ, ◌+◌, ◌<◌, length, Option, None, Some, Result, Ok, Err, OnErr, OnOk, refl, sym, ap, ◌∙◌, subst, arith}
use Rattle.std.specs.Option.{option_map}
use Rattle.std.proofs.lemmas.Option.{none-some, same_Some, slice_get_within}
use Rattle.bd_base.specs.declared.journal.Found.{Found}
use Rattle.bd_base.specs.declared.script.Script.{Script}
use Rattle.bd_machine.specs.declared.parts.Parts.{Parts}
use Rattle.bd_machine.specs.declared.process.Hand.{Hand}
use Rattle.bd_machine.specs.declared.process.Process.{Process}
use Rattle.bd_machine.specs.declared.told.Fell.{Fell}
use Rattle.bd_machine.specs.declared.told.Fell.TheVariants.{Again, Noted}
use Rattle.bd_machine.specs.Asked.{IsInPhaseAt, IsSameState, TookRow, engine_of}
use Rattle.bd_machine.specs.Engines.{HasInHand, IsInPhase, OnAgain, OnNoted, TakesCommand, TookRowOf, in_hand_told}
use Rattle.bd_machine.specs.Machine.{IsShown}
use Rattle.bd_machine.specs.Turns.{IsAt, Sight, StaysAt, process_in}
use Rattle.bd_machine.specs.Whole.{Whole}
use Rattle.bd_machine.proofs.EngineTakings.{takes_command, takes_nothing}
use Rattle.bd_tables.specs.declared.request.Request.{Request}
use Rattle.bd_tables.specs.declared.sides.Tables as sides
use Rattle.bd_turns.specs.declared.turn.Row.{Row}
use Rattle.bd_turns.specs.Reached.{IsActor}
use Rattle.bd_turns.specs.State.{Phase, State, progress_of}
use Rattle.bd_turns.proofs.TurnsKept.{turns_keep_it}

-- what follows from either outcome
pub of_result : {C E A B : Type 0} {X : Type 0} (r : Result X E) → OnOk r A → OnErr r B → (A → C) → (B → C) → C
of_result (Ok x) ok err good bad = good ok
of_result (Err e) ok err good bad = bad err

-- what follows from each outcome of a miss
pub of_fell : {C E A B : Type 0} {N : Found → Type 0} (r : Result Fell E) → OnNoted r A → OnAgain r N → OnErr r B →
    (A → C) → ((found : Found) → N found → C) → (B → C) → C
of_fell (Ok Noted) noted again err good other bad = good noted
of_fell (Ok (Again found)) noted again err good other bad = other found again
of_fell (Err e) noted again err good other bad = bad err

pub on_noted : {E A B : Type 0} (r : Result Fell E) → (A → B) → OnNoted r A → OnNoted r B
on_noted (Ok Noted) f is = f is
on_noted (Ok (Again found)) f is = tt
on_noted (Err e) f is = tt

pub on_again : {E : Type 0} {A B : Found → Type 0} (r : Result Fell E) → ((found : Found) → A found → B found) → OnAgain r A → OnAgain r B
on_again (Ok Noted) f is = tt
on_again (Ok (Again found)) f is = f found is
on_again (Err e) f is = tt

pub on_ok : {X E A B : Type 0} (r : Result X E) → (A → B) → OnOk r A → OnOk r B
on_ok (Ok x) f is = f is
on_ok (Err e) f is = tt

pub on_err : {X E A B : Type 0} (r : Result X E) → (A → B) → OnErr r A → OnErr r B
on_err (Ok x) f is = tt
on_err (Err e) f is = f is

-- nothing is told of a hand exactly where it is empty
pub no_hand_told : (process : ℕ) (hand : Option Hand) → None ≡ option_map (in_hand_told process) hand → hand ≡ None
no_hand_told process None is = refl
no_hand_told process (Some hand) is = absurd (none-some (in_hand_told process hand) is)

module _ {T M P : Type 0} {K : sides.Ghosts T P} (x : Whole T M P) (script : Script) (parts : Parts T M P) (m : State)
    (view_is : record { script = script; parts = parts } ≡ x) (shown : IsShown K x m) where
  -- the state is shown by what the machine has inside
  pub at_inside : IsAt K script parts m
  at_inside = subst (λ (w : Whole T M P). IsShown K w m) (sym view_is) shown

  -- what was there stays there, so does the state
  pub same_state : (y : Parts T M P) → StaysAt K script parts y m → IsSameState K x (record { script = script; parts = y }) m
  same_state y stays =
      subst (λ (w : Whole T M P). IsSameState K w (record { script = script; parts = y }) m) view_is
      (record {
        script = refl;
        shown = record { shows = stays.shows; reached = at_inside.reached; built = at_inside.built };
        events = stays.events;
        turns = stays.turns;
      })

  module _ (q : ℕ) (inside : q < length script.processes) where
    abbrev actor : ℕ
    actor = length script.processes + q

    is_actor : IsActor m actor
    is_actor =
        let count : length m.script.processes ≡ length script.processes =
        ap (λ (s : Script). length s.processes) at_inside.shows.script_is in
        omega (arith, inside, count)

    -- the turn of the engine was taken
    pub took_row : (y : Parts T M P) (row : Row) → TookRowOf K script parts y m q row →
        TookRow K x (record { script = script; parts = y }) m (engine_of x q) row
    took_row y row took =
        subst (λ (w : Whole T M P). TookRow K w (record { script = script; parts = y }) m (engine_of w q) row) view_is
        (record {
          script = refl;
          shown = record {
            shows = took.shows;
            reached = (at_inside.reached.0, turns_keep_it at_inside.reached.0 m actor at_inside.reached.1 is_actor);
            built = at_inside.built;
          };
          answer = took.answer;
          events = took.events;
          turns = took.turns;
        })

  module _ (q : ℕ) (it : Process P) (there : process_in parts q ≡ Some it) (free : it.hand ≡ None) where
    sight : Sight
    sight = record { script = script; state = m }

    -- a command was taken, or there was none
    pub taken_stays : (y : Parts T M P) (o : Option Request) → TakesCommand parts y q it o → StaysAt K script parts y m
    unfolding sight
    taken_stays y None taken = takes_nothing sight parts q it at_inside there free y taken.1
    taken_stays y (Some request) taken =
        takes_command sight parts q it at_inside there free taken.command taken.rest taken.submitted y taken.becomes

  -- a process with a command in the hand of its engine is one of the script
  pub within : (q : ℕ) (hand : Hand) → HasInHand x.parts q hand → q < length script.processes
  within q hand has =
      let there = subst (λ (w : Whole T M P). HasInHand w.parts q hand) (sym view_is) has in
      let inside : q < length parts.processes.items = slice_get_within parts.processes.items q there.it there.there in
      let count : length parts.processes.items ≡ length script.processes = at_inside.shows.count in
      omega (arith, inside, count)

  -- the turn of an engine with a command in its hand was taken, by a machine with the script of the state
  pub took_row_of : (q : ℕ) (hand : Hand) → HasInHand x.parts q hand → (y : Parts T M P) (row : Row) →
      TookRowOf K m.script parts y m q row → TookRow K x (record { script = script; parts = y }) m (engine_of x q) row
  took_row_of q hand has y row took =
      took_row q (within q hand has) y row (subst (λ (s : Script). TookRowOf K s parts y m q row) at_inside.shows.script_is took)

  -- the machine has inside the hand that it shows
  pub has_inside : (q : ℕ) (hand : Hand) → HasInHand x.parts q hand → HasInHand parts q hand
  has_inside q hand has = subst (λ (w : Whole T M P). HasInHand w.parts q hand) (sym view_is) has

  -- and the engine in its phase
  pub in_phase_inside : (q : ℕ) (phase : Phase) (hand : Hand) → HasInHand x.parts q hand →
      (progress_of m q).hand ≡ Some (record { piece = hand.command.piece; phase = phase }) →
      IsInPhase K (record { script = script; state = m }) parts q phase
  in_phase_inside q phase hand has entered =
      let there = has_inside q hand has in
      record { at = at_inside; it = there.it; there = there.there; hand = hand; in_hand = there.in_hand; entered = entered }

  -- the same, where the script is told to be that of the state
  pub in_phase_own : (q : ℕ) → {phase : Phase} → IsInPhaseAt K x m q phase → IsInPhase K (record { script = m.script; state = m }) parts q phase
  in_phase_own q {phase} is =
      subst (λ (s : Script). IsInPhase K (record { script = s; state = m }) parts q phase) (sym at_inside.shows.script_is)
      (in_phase_inside q phase is.hand is.has is.entered)

-- the script is that of the state
pub at_own : {T M P : Type 0} {K : sides.Ghosts T P} (script : Script) (x : Parts T M P) (m : State) → IsAt K script x m → IsAt K m.script x m
at_own {T} {M} {P} {K} script x m at = subst (λ (s : Script). IsAt K s x m) (sym at.shows.script_is) at

pub stays_own : {T M P : Type 0} {K : sides.Ghosts T P} (script : Script) (x : Parts T M P) (m : State) → IsAt K script x m → (y : Parts T M P) →
    StaysAt K m.script x y m → StaysAt K script x y m
stays_own {T} {M} {P} {K} script x m at y stays = subst (λ (s : Script). StaysAt K s x y m) at.shows.script_is stays

-- a process has one command in the hand of its engine
pub one_hand : {T M P : Type 0} (x : Parts T M P) (q : ℕ) (a b : Hand) → HasInHand x q a → HasInHand x q b → a ≡ b
one_hand {T} {M} {P} x q a b first second =
    same_Some a b
    (sym first.in_hand ∙ ap (λ (y : Process P). y.hand) (same_Some first.it second.it (sym first.there ∙ second.there)) ∙ second.in_hand)
