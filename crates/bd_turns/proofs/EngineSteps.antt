-- The steps of the device engines and of the invalidation engine, one by one.
use Rattle.std.proofs.Common.{◌≡◌, ℕ, Bool, true, false, not, cond, nat_eq, List, [], ◌∷◌, position, Option, None, Some, refl, sym, ap, ◌∙◌}
use Rattle.std.specs.Option.{option_map}
use Rattle.std.specs.FinMap as fin
use Rattle.std.proofs.lemmas.Bool.{false≢true, eqb-true}
use Rattle.std.proofs.lemmas.Option.{none-some, same_Some}
use Rattle.bd_base.specs.declared.journal.Found.{Found}
use Rattle.bd_base.specs.declared.key.Key.{Key}
use Rattle.bd_entry.specs.declared.entry.Entry.{Entry}
use Rattle.bd_entry.specs.declared.entry.Entry.TheVariants as entries
use Rattle.bd_entry.specs.Calls.{Place}
use Rattle.bd_entry.proofs.NextActs.{map_from, then_from}
use Rattle.bd_tables.specs.declared.request.Completion.{Completion}
use Rattle.bd_tables.specs.declared.request.Request.{Request}
use Rattle.bd_tables.specs.declared.state.Right.{Right}
use Rattle.bd_tables.specs.declared.state.RightState.{RightState}
use Rattle.bd_tables.specs.declared.state.RightState.TheVariants as states
use Rattle.bd_tables.specs.Effects as effects
use Rattle.bd_tables.specs.State.{TableState, engines_in, found_of, told_of, walk_at}
use Rattle.bd_turns.specs.declared.turn.Row.{Row}
use Rattle.bd_turns.specs.declared.turn.Row.TheVariants as rows
use Rattle.bd_turns.specs.declared.turn.Wait.TheVariants as waits
use Rattle.bd_turns.specs.Engines.{Invalidation, Changes, Ends, WaitsFor, Step, complete, detach, drain, engine_step, engine_with, enter, fill, go_on, invalidate, invalidation_of, look, miss, move, move_entry_of, notes, read_entry, request_of_piece, retire, sweep_or_detach, take_command}
use Rattle.bd_turns.specs.State.{InHand, Phase, Looking, Reading, Filling, Moving, Missing, Retiring, Completing, Posted, Progress, State, progress_of}

-- ---- the device engines

-- an engine takes a command, or goes on with the one in its hand
pub data IsStep (m : State) (p : Place) (step : Step) : Type 0 where
  enters : (number : ℕ) (rest : List ℕ) (request : Request) → (progress_of m p.at.process).hand ≡ None →
      (progress_of m p.at.process).submitted ≡ number ∷ rest → request_of_piece p number ≡ Some request →
      step ≡ enter m.tables (progress_of m p.at.process) number rest request → IsStep m p step
  looks : (hand : InHand) (request : Request) → (progress_of m p.at.process).hand ≡ Some hand → hand.phase ≡ Looking →
      request_of_piece p hand.piece ≡ Some request →
      step ≡ look m.tables (progress_of m p.at.process) hand.piece request → IsStep m p step
  reads : (hand : InHand) (request : Request) → (progress_of m p.at.process).hand ≡ Some hand → hand.phase ≡ Reading →
      request_of_piece p hand.piece ≡ Some request →
      step ≡ read_entry m.tables (progress_of m p.at.process) hand.piece request → IsStep m p step
  fills : (hand : InHand) (request : Request) (completion : Completion) → (progress_of m p.at.process).hand ≡ Some hand →
      hand.phase ≡ Filling → request_of_piece p hand.piece ≡ Some request →
      told_of (walk_at m.tables.walks p.at.process) ≡ Some completion →
      step ≡ fill m.tables (progress_of m p.at.process) hand.piece request completion → IsStep m p step
  moves : (hand : InHand) (completion : Completion) (entry : Entry) → (progress_of m p.at.process).hand ≡ Some hand →
      hand.phase ≡ Moving → told_of (walk_at m.tables.walks p.at.process) ≡ Some completion →
      move_entry_of m.store p hand.piece completion.block ≡ Some entry →
      step ≡ notes rows.Move m.tables (progress_of m p.at.process) hand.piece entry → IsStep m p step
  misses : (hand : InHand) (found : Found) → (progress_of m p.at.process).hand ≡ Some hand → hand.phase ≡ Missing →
      found_of (walk_at m.tables.walks p.at.process) ≡ Some found →
      step ≡ miss m.tables p (progress_of m p.at.process) hand.piece found → IsStep m p step
  retires : (hand : InHand) → (progress_of m p.at.process).hand ≡ Some hand → hand.phase ≡ Retiring →
      step ≡ retire m.tables p (progress_of m p.at.process) hand.piece → IsStep m p step
  completes : (hand : InHand) → (progress_of m p.at.process).hand ≡ Some hand → hand.phase ≡ Completing →
      step ≡ complete m.tables p (progress_of m p.at.process) hand.piece → IsStep m p step

pub engine_steps : (m : State) (p : Place) (step : Step) → engine_step m p ≡ Some step → IsStep m p step
engine_steps m p step is = by (progress_of m p.at.process).hand refl is
  where
    progress : Progress
    progress = progress_of m p.at.process

    takes : (submitted : List ℕ) → progress.submitted ≡ submitted → progress.hand ≡ None →
        take_command m.tables p progress submitted ≡ Some step → IsStep m p step
    takes [] waiting none is = absurd (none-some step is)
    takes (number ∷ rest) waiting none is =
        let found = map_from (enter m.tables progress number rest) (request_of_piece p number) step is in
        enters number rest found.0 none waiting found.1 (sym found.2)

    goes_on : (hand : InHand) → progress.hand ≡ Some hand → (phase : Phase) → hand.phase ≡ phase → go_on m p progress hand.piece phase ≡ Some step →
        IsStep m p step
    goes_on hand in_hand Looking phase is =
        let found = map_from (look m.tables progress hand.piece) (request_of_piece p hand.piece) step is in
        looks hand found.0 in_hand phase found.1 (sym found.2)
    goes_on hand in_hand Reading phase is =
        let found = map_from (read_entry m.tables progress hand.piece) (request_of_piece p hand.piece) step is in
        reads hand found.0 in_hand phase found.1 (sym found.2)
    goes_on hand in_hand Filling phase is =
        let of_request = then_from
        (λ request. option_map (fill m.tables progress hand.piece request) (told_of (walk_at m.tables.walks p.at.process)))
        (request_of_piece p hand.piece) step is in
        let found = map_from (fill m.tables progress hand.piece of_request.0) (told_of (walk_at m.tables.walks p.at.process)) step of_request.2 in
        fills hand of_request.0 found.0 in_hand phase of_request.1 found.1 (sym found.2)
    goes_on hand in_hand Moving phase is =
        let told = then_from (move m.store m.tables p progress hand.piece) (told_of (walk_at m.tables.walks p.at.process)) step is in
        let found = map_from (notes rows.Move m.tables progress hand.piece) (move_entry_of m.store p hand.piece told.0.block) step told.2 in
        moves hand told.0 found.0 in_hand phase told.1 found.1 (sym found.2)
    goes_on hand in_hand Missing phase is =
        let found = map_from (miss m.tables p progress hand.piece) (found_of (walk_at m.tables.walks p.at.process)) step is in
        misses hand found.0 in_hand phase found.1 (sym found.2)
    goes_on hand in_hand Retiring phase is = retires hand in_hand phase (sym (same_Some (retire m.tables p progress hand.piece) step is))
    goes_on hand in_hand Completing phase is = completes hand in_hand phase (sym (same_Some (complete m.tables p progress hand.piece) step is))

    by : (hand : Option InHand) → progress.hand ≡ hand → engine_with m p progress hand ≡ Some step → IsStep m p step
    by None none is = takes progress.submitted refl none is
    by (Some hand) in_hand is = goes_on hand in_hand hand.phase refl is

-- ---- the invalidation engine

-- a change by the invalidation engine: a drain of a key that is cleared and in which no engine is, or the sweep of a line
-- for a key that is drained
pub data IsChange (tables : TableState) (posted : List Posted) (after : TableState) : Type 0 where
  drains : (post : Posted) (rest : List Posted) (right : Right) → posted ≡ post ∷ rest → fin.get tables.rights post.key ≡ Some right →
      right.state ≡ states.Cleared → engines_in tables.walks post.key ≡ 0 → after ≡ effects.drain tables post.key → IsChange tables posted after
  sweeps : (post : Posted) (rest : List Posted) (right : Right) (swept : List Bool) (line : ℕ) → posted ≡ post ∷ rest →
      fin.get tables.rights post.key ≡ Some right → right.state ≡ states.Drained swept → position not swept ≡ Some line →
      after ≡ effects.sweep tables line post.key → IsChange tables posted after

-- the end of an invalidation: a key of which each line is swept is detached
pub record IsEnd (tables : TableState) (posted : List Posted) (entry : Entry) (after : TableState) : Type 0 where
  pub post : Posted
  pub rest : List Posted
  pub right : Right
  pub swept : List Bool
  pub posted_is : posted ≡ post ∷ rest
  pub attached : fin.get tables.rights post.key ≡ Some right
  pub drained : right.state ≡ states.Drained swept
  pub whole : position not swept ≡ None
  pub entry_is : entry ≡ entries.Detached post.by post.key.process post.key.fd post.key.part
  pub after_is : after ≡ effects.detach tables post.key

-- what an invalidation comes to, in parts
tables_in : Invalidation → TableState → TableState
tables_in (Changes row tables) none = tables
tables_in (Ends entry tables) none = tables
tables_in (WaitsFor wait) none = none

entry_in : Invalidation → Entry → Entry
entry_in (Changes row tables) none = none
entry_in (Ends entry tables) none = entry
entry_in (WaitsFor wait) none = none

does_change : Invalidation → Bool
does_change (Changes row tables) = true
does_change (Ends entry tables) = false
does_change (WaitsFor wait) = false

does_end : Invalidation → Bool
does_end (Changes row tables) = false
does_end (Ends entry tables) = true
does_end (WaitsFor wait) = false

drain_cases : (tables : TableState) (key : Key) (count : ℕ) (b : Bool) → nat_eq count 0 ≡ b → (invalidation : Invalidation) →
    cond b (Changes rows.Drain (effects.drain tables key)) (WaitsFor (waits.InFlight key count)) ≡ invalidation → does_change invalidation ≡ true →
    (count ≡ 0) × (tables_in invalidation tables ≡ effects.drain tables key)
unfolding tables_in does_change
drain_cases tables key count true none invalidation is changes =
    (eqb-true count 0 none, sym (ap (λ (i : Invalidation). tables_in i tables) is))
drain_cases tables key count false some invalidation is changes =
    absurd (false≢true (ap does_change is ∙ changes))

-- the drain of a key ends nothing
drain_ends_nothing : (tables : TableState) (key : Key) → does_end (drain tables key) ≡ false
unfolding does_end
drain_ends_nothing tables key = by (nat_eq (engines_in tables.walks key) 0)
  where
    by : (b : Bool) → does_end (cond b (Changes rows.Drain (effects.drain tables key)) (WaitsFor (waits.InFlight key (engines_in tables.walks key)))) ≡ false
    by true = refl
    by false = refl

pub changes_of : (tables : TableState) (posted : List Posted) (row : Row) (after : TableState) →
    invalidation_of tables posted ≡ Some (Changes row after) → IsChange tables posted after
unfolding tables_in does_change
changes_of tables [] row after is = absurd (none-some (Changes row after) is)
changes_of tables (post ∷ rest) row after is =
    let found = then_from (λ (right : Right). invalidate tables post right.state) (fin.get tables.rights post.key) (Changes row after) is in
    by found.0 found.1 found.0.state refl found.2
  where
    by : (right : Right) → fin.get tables.rights post.key ≡ Some right → (state : RightState) → right.state ≡ state →
        invalidate tables post state ≡ Some (Changes row after) → IsChange tables (post ∷ rest) after
    by right attached states.On on is = absurd (none-some (Changes row after) is)
    by right attached states.Cleared cleared is =
        let count = engines_in tables.walks post.key in
        let drained = drain_cases tables post.key count (nat_eq count 0) refl (Changes row after)
        (same_Some (drain tables post.key) (Changes row after) is) refl in
        drains post rest right refl attached cleared drained.0 drained.1
    by right attached (states.Drained swept) drained is = swept_by (position not swept) refl
      where
        same : sweep_or_detach tables post swept ≡ Changes row after
        same = same_Some (sweep_or_detach tables post swept) (Changes row after) is

        swept_by : (next : Option ℕ) → position not swept ≡ next → IsChange tables (post ∷ rest) after
        swept_by None none =
            let ends : detach tables post ≡ Changes row after = rw none at same in
            absurd (false≢true (ap does_change ends))
        swept_by (Some line) next =
            let sweeping : Changes (rows.Sweep line) (effects.sweep tables line post.key) ≡ Changes row after = rw next at same in
            sweeps post rest right swept line refl attached drained next (sym (ap (λ (i : Invalidation). tables_in i tables) sweeping))

pub end_of : (tables : TableState) (posted : List Posted) (entry : Entry) (after : TableState) →
    invalidation_of tables posted ≡ Some (Ends entry after) → IsEnd tables posted entry after
unfolding tables_in entry_in does_end
end_of tables [] entry after is = absurd (none-some (Ends entry after) is)
end_of tables (post ∷ rest) entry after is =
    let found = then_from (λ (right : Right). invalidate tables post right.state) (fin.get tables.rights post.key) (Ends entry after) is in
    by found.0 found.1 found.0.state refl found.2
  where
    by : (right : Right) → fin.get tables.rights post.key ≡ Some right → (state : RightState) → right.state ≡ state →
        invalidate tables post state ≡ Some (Ends entry after) → IsEnd tables (post ∷ rest) entry after
    by right attached states.On on is = absurd (none-some (Ends entry after) is)
    by right attached states.Cleared cleared is =
        absurd (false≢true (sym (drain_ends_nothing tables post.key) ∙ ap does_end (same_Some (drain tables post.key) (Ends entry after) is)))
    by right attached (states.Drained swept) drained is = swept_by (position not swept) refl
      where
        same : sweep_or_detach tables post swept ≡ Ends entry after
        same = same_Some (sweep_or_detach tables post swept) (Ends entry after) is

        swept_by : (next : Option ℕ) → position not swept ≡ next → IsEnd tables (post ∷ rest) entry after
        swept_by None none =
            let ends : detach tables post ≡ Ends entry after = rw none at same in
            record {
              post = post;
              rest = rest;
              right = right;
              swept = swept;
              posted_is = refl;
              attached = attached;
              drained = drained;
              whole = none;
              entry_is = sym (ap (λ (i : Invalidation). entry_in i entry) ends);
              after_is = sym (ap (λ (i : Invalidation). tables_in i tables) ends);
            }
        swept_by (Some line) next =
            let sweeping : Changes (rows.Sweep line) (effects.sweep tables line post.key) ≡ Ends entry after = rw next at same in
            absurd (false≢true (ap does_end sweeping))
