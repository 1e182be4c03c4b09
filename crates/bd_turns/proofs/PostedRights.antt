-- Where no engine has a command, the invalidation engine acts for the request at the front.
use Rattle.std.proofs.Common.{◌≡◌, ℕ, suc, ◌+◌, Bool, false, cond, List, [], ◌∷◌, ◌++◌, Option, None, Some, refl, sym, ap, ◌∙◌, subst, arith}
use Rattle.std.specs.Prelude.{nat_eq, not, position, slice_get}
use Rattle.std.specs.Option.{option_and_then, option_map, option_map_or}
use Rattle.std.proofs.lemmas.Bool.{cond-false, cond-true, eq-eqb, false≢true}
use Rattle.std.proofs.lemmas.List.Sums.{sum_by-cons}
use Rattle.bd_base.specs.declared.key.Key.{Key}
use Rattle.bd_base.specs.declared.volume.Volume.{Volume}
use Rattle.bd_entry.specs.Actions.{is_none_of}
use Rattle.bd_entry.specs.Calls.{Place, call_at}
use Rattle.bd_entry.proofs.NextActs.{map_from}
use Rattle.bd_tables.specs.Effects as effects
use Rattle.bd_tables.specs.declared.state.Right.{Right}
use Rattle.bd_tables.specs.declared.state.RightState.{RightState}
use Rattle.bd_tables.specs.declared.state.RightState.TheVariants as states
use Rattle.bd_tables.specs.declared.state.Walk.{Walk}
use Rattle.bd_tables.specs.declared.state.Walk.TheVariants as walks
use Rattle.bd_tables.specs.State.{engines_in, is_in, walk_at}
use Rattle.bd_turns.specs.declared.turn.Row.TheVariants as rows
use Rattle.bd_turns.specs.declared.turn.Wait.TheVariants as waits
use Rattle.bd_turns.specs.Engines as engines
use Rattle.bd_turns.specs.Engines.{Invalidation, detach, drain, invalidate, invalidation_of, sweep_or_detach}
use Rattle.bd_turns.specs.Reached.{IsReached}
use Rattle.bd_turns.specs.Sound.{IsPostedState}
use Rattle.bd_turns.specs.State.{InHand, Posted, Progress, State, pieces_in_hand, place_of, progress_of, running, running_at}
use Rattle.bd_turns.specs.Turns.{SomeActorActs, outcome_of_invalidation, posting_place}
use Rattle.bd_turns.proofs.Acting.{DoesAct, invalidation_acts}
use Rattle.bd_turns.proofs.BusyEngines.{There, has_command}

-- no engine of a process has a command
abbrev pub IsQuiet : State → Type 0
IsQuiet m = (process : ℕ) → has_command (progress_of m process) ≡ false

no_hand : (progress : Progress) → has_command progress ≡ false → progress.hand ≡ None
no_hand progress none = by progress.hand refl none
  where
    by : (slot : Option InHand) → progress.hand ≡ slot → not (is_none_of (pieces_in_hand slot ++ progress.submitted)) ≡ false → progress.hand ≡ None
    by None is none = is
    by (Some hand) is none = absurd (false≢true (sym none))

-- no engine is in any key where each walk is idle
none_in : (list : List Walk) → ((i : ℕ) → walk_at list i ≡ walks.Idle) → (key : Key) → engines_in list key ≡ 0
none_in [] idle key = refl
none_in (walk ∷ list) idle key =
    let one : Walk → ℕ = λ w. cond (is_in key w) 1 0 in
    let here : one walk ≡ 0 = cond-false (is_in key walk) 1 0 (ap (is_in key) (idle 0)) in
    let step : engines_in (walk ∷ list) key ≡ one walk + engines_in list key = sum_by-cons one walk list in
    let rest : engines_in list key ≡ 0 = none_in list (λ i. idle (suc i)) key in
    omega arith

no_engines : (v : Volume) (m : State) → IsReached v m → IsQuiet m → (key : Key) → engines_in m.tables.walks key ≡ 0
no_engines v m reached quiet key =
    none_in m.tables.walks (λ i. reached.sound.tables_are.idle i (no_hand (progress_of m i) (quiet i))) key

-- ---- the request at the front

-- the running call that posted a request is at the place where the invalidation engine looks for it
posted_by : (m : State) (post : Posted) (p : Place) → running m post.by.process ≡ Some p → p.at ≡ post.by → There (call_at m.script post.by)
posted_by m post p is at =
    let found = map_from (place_of m (running_at m post.by.process)) (call_at m.script (running_at m post.by.process)) p is in
    let there : running_at m post.by.process ≡ post.by = ap (λ (q : Place). q.at) found.2 ∙ at in
    (found.0, ap (call_at m.script) (sym there) ∙ found.1)

ends_or_sweeps : (m : State) (p : Place) (post : Posted) (swept : List Bool) → DoesAct (outcome_of_invalidation m p (sweep_or_detach m.tables post swept))
ends_or_sweeps m p post swept = by (position not swept)
  where
    by : (o : Option ℕ) →
        DoesAct (outcome_of_invalidation m p
        (option_map_or (λ line. engines.Changes (rows.Sweep line) (effects.sweep m.tables line post.key)) o (detach m.tables post)))
    by None = (_, refl)
    by (Some line) = (_, refl)

drains : (m : State) (p : Place) (key : Key) → engines_in m.tables.walks key ≡ 0 → DoesAct (outcome_of_invalidation m p (drain m.tables key))
drains m p key none =
    let count : ℕ = engines_in m.tables.walks key in
    let same : drain m.tables key ≡ engines.Changes rows.Drain (effects.drain m.tables key) =
    cond-true (nat_eq count 0) (engines.Changes rows.Drain (effects.drain m.tables key)) (engines.WaitsFor (waits.InFlight key count)) (eq-eqb count 0 none) in
    subst (λ (i : Invalidation). DoesAct (outcome_of_invalidation m p i)) (sym same) (rows.Drain, refl)

invalidates : (m : State) (p : Place) (post : Posted) (state : RightState) → IsPostedState 0 state → engines_in m.tables.walks post.key ≡ 0 →
    (i : Invalidation) × (invalidate m.tables post state ≡ Some i) × DoesAct (outcome_of_invalidation m p i)
invalidates m p post states.On posted none = absurd posted
invalidates m p post states.Cleared posted none = (drain m.tables post.key, refl, drains m p post.key none)
invalidates m p post (states.Drained swept) posted none = (sweep_or_detach m.tables post swept, refl, ends_or_sweeps m p post swept)

-- where something is posted and no engine has a command, the invalidation engine acts
pub posted_acts : (v : Volume) (m : State) → IsReached v m → IsQuiet m → (post : Posted) (rest : List Posted) → m.posted ≡ post ∷ rest → SomeActorActs m
posted_acts v m reached quiet post rest list =
    let front : slice_get m.posted 0 ≡ Some post = ap (λ (posts : List Posted). slice_get posts 0) list in
    let by = reached.sound.holds_are.posted.by_running 0 post front in
    let of = reached.sound.holds_are.posted.state_of 0 post front in
    let call = posted_by m post by.0 by.1 by.2 in
    let p : Place = place_of m post.by call.0 in
    let find : Posted → Option Place = λ post. option_map (place_of m post.by) (call_at m.script post.by) in
    let place : posting_place m ≡ Some p = ap (option_and_then find) front ∙ ap (option_map (place_of m post.by)) call.1 in
    let step = invalidates m p post of.0.state of.2 (no_engines v m reached quiet post.key) in
    let is : invalidation_of m.tables m.posted ≡ Some step.0 =
    ap (invalidation_of m.tables) list
    ∙ ap (option_and_then (λ (right : Right). invalidate m.tables post right.state)) of.1 ∙ step.1 in
    invalidation_acts m p step.0 place is step.2
