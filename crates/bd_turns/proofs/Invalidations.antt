-- The turns of the invalidation engine, and the posting of a key.
use Rattle.std.proofs.Common.{◌≡◌, ◌≢◌, ℕ, Bool, true, false, not, cond, List, [], ◌∷◌, Option, None, Some, refl, sym, ap, ◌∙◌, subst}
use Rattle.std.specs.Prelude.{nat_eq, position, slice_get, slice_set, drop}
use Rattle.std.specs.Option.{option_and_then, option_map, option_map_or, option_or}
use Rattle.std.specs.List.{list_any}
use Rattle.std.specs.FinMap as fin
use Rattle.std.proofs.lemmas.Bool.{both_ways}
use Rattle.std.proofs.lemmas.Option.{none-some, same_Some}
use Rattle.bd_base.specs.declared.journal.At.{At}
use Rattle.bd_base.specs.declared.key.Key.{Key}
use Rattle.bd_base.specs.Keys.{key_cmp_total}
use Rattle.bd_entry.specs.declared.act.Act.{Act}
use Rattle.bd_entry.specs.declared.act.Act.TheVariants as acts
use Rattle.bd_entry.specs.declared.entry.Entry.{Entry}
use Rattle.bd_entry.specs.declared.entry.Entry.TheVariants as entries
use Rattle.bd_entry.specs.Actions.{entry_of_act, is_none_of, keys_to_revoke, own_act, revoke}
use Rattle.bd_entry.specs.Calls.{Place, call_at, entries_of}
use Rattle.bd_entry.proofs.NextActs.{map_from, then_from}
use Rattle.bd_tables.specs.declared.state.Right.{Right}
use Rattle.bd_tables.specs.declared.state.RightState.{RightState}
use Rattle.bd_tables.specs.declared.state.RightState.TheVariants as states
use Rattle.bd_tables.specs.Effects as effects
use Rattle.bd_tables.specs.State.{TableState, engines_in}
use Rattle.bd_tables.proofs.Maps.{other_key-change, other_key-remove, same_key-remove}
use Rattle.bd_turns.specs.declared.turn.Row.{Row}
use Rattle.bd_turns.specs.declared.turn.Row.TheVariants as rows
use Rattle.bd_turns.specs.declared.turn.Wait.{Wait}
use Rattle.bd_turns.specs.declared.turn.Wait.TheVariants as waits
use Rattle.bd_turns.specs.Engines as engines
use Rattle.bd_turns.specs.Engines.{Invalidation, detach, drain, invalidate, invalidation_of, sweep_or_detach}
use Rattle.bd_turns.specs.Processors as processors
use Rattle.bd_turns.specs.Processors.{Action, action_for, next_action, row_of_entry, running_of, unposted}
use Rattle.bd_turns.specs.Sound.{ArePosted, is_clear_at, is_revoked}
use Rattle.bd_turns.specs.State.{Posted, State, holder_of, place_of, progress_of, running}
use Rattle.bd_turns.specs.Turns.{posting_place}
use Rattle.bd_turns.proofs.ActionsOfCalls.{Ahead, ahead}
use Rattle.bd_turns.proofs.OwnActs.{revokes_just}
use Rattle.bd_turns.proofs.Revocations.{revokes-posts}
use Rattle.bd_turns.proofs.RightsAfterTurns.{Changes, IsFront, SetsAt, detaches, moves, other_keys, state_set}
use Rattle.bd_turns.proofs.RunningPlaces.{runs_at}

-- ---- the request at the front

-- the call that posted the request at the front runs at its place
pub front_of : (m : State) (p : Place) (post : Posted) (rest : List Posted) → ArePosted m → m.posted ≡ post ∷ rest → posting_place m ≡ Some p →
    IsFront m p post rest
front_of m p post rest posted posted_is place =
    let front : slice_get m.posted 0 ≡ Some post = ap (λ (ps : List Posted). slice_get ps 0) posted_is in
    let placed : option_map (place_of m post.by) (call_at m.script post.by) ≡ Some p =
    sym (ap (option_and_then (λ (x : Posted). option_map (place_of m x.by) (call_at m.script x.by))) front) ∙ place in
    let found = map_from (place_of m post.by) (call_at m.script post.by) p placed in
    let by = posted.by_running 0 post front in
    let at = runs_at m post.by.process by.0 by.1 in
    let call : found.0 ≡ by.0.call = same_Some found.0 by.0.call (sym found.1 ∙ ap (call_at m.script) (sym by.2) ∙ at.called) in
    let same : by.0 ≡ p =
    ap (λ (es : List Entry). record by.0 { before = es }) at.before_is
    ∙ ap (λ (a : At). record { call = by.0.call; at = a; before = entries_of a m.journal }) by.2
    ∙ ap (place_of m post.by) (sym call) ∙ found.2 in
    let is_at : p.at ≡ post.by = ap (λ (x : Place). x.at) (sym same) ∙ by.2 in
    record {
      posted_is = posted_is;
      at_is = is_at;
      runs = ap (λ (a : At). running m a.process) is_at ∙ by.1 ∙ ap Some same;
      cleared = subst (λ (x : Place). list_any (is_clear_at post.key) x.before ≡ true) same by.3;
    }

-- ---- what the engine does

-- the request, its right, and what is done for it
record Invalidates (m : State) (done : Invalidation) : Type 0 where
  post : Posted
  rest : List Posted
  posted_is : m.posted ≡ post ∷ rest
  right : Right
  right_is : fin.get m.tables.rights post.key ≡ Some right
  does : invalidate m.tables post right.state ≡ Some done

invalidates : (m : State) (done : Invalidation) → invalidation_of m.tables m.posted ≡ Some done → Invalidates m done
invalidates m done is = by m.posted refl is
  where
    by : (posted : List Posted) → m.posted ≡ posted → invalidation_of m.tables posted ≡ Some done → Invalidates m done
    by [] none is = absurd (none-some done is)
    by (post ∷ rest) some is =
        let found = then_from (λ (right : Right). invalidate m.tables post right.state) (fin.get m.tables.rights post.key) done is in
        record { post = post; rest = rest; posted_is = some; right = found.0; right_is = found.1; does = found.2 }

-- the tables that a change leads to
abbrev changed_to : Invalidation → Option TableState
changed_to (engines.Changes row tables) = Some tables
changed_to done = None

-- the tables that an end leads to, and its entry
abbrev ended_to : Invalidation → Option (Entry × TableState)
ended_to (engines.Ends entry tables) = Some (entry, tables)
ended_to done = None

-- a change drains the right or sweeps one line more
record IsMove (m : State) (post : Posted) (right : Right) (tables : TableState) : Type 0 where
  revoked : is_revoked right.state ≡ true
  swept : List Bool
  sets : (next : State) → next.tables ≡ tables → SetsAt m next post.key (Some (record right { state = states.Drained swept }))

drained_move : (m : State) (post : Posted) (right : Right) → fin.get m.tables.rights post.key ≡ Some right → is_revoked right.state ≡ true →
    IsMove m post right (effects.drain m.tables post.key)
drained_move m post right is revoked = record {
  revoked = revoked;
  swept = effects.none_swept;
  sets = λ next same. record {
    here =
        ap (λ (x : TableState). fin.get x.rights post.key) same
        ∙ state_set m.tables.rights post.key (λ (r : Right). record r { state = states.Drained effects.none_swept }) right is;
    others = λ other differ.
        ap (λ (x : TableState). fin.get x.rights other) same
        ∙ other_key-change key_cmp_total m.tables.rights post.key (λ (r : Right). record r { state = states.Drained effects.none_swept }) other
        (other_keys other post.key differ);
  };
}

swept_move : (m : State) (post : Posted) (right : Right) (line : ℕ) (swept : List Bool) → fin.get m.tables.rights post.key ≡ Some right →
    right.state ≡ states.Drained swept → IsMove m post right (effects.sweep m.tables line post.key)
swept_move m post right line swept is state =
    let sweeps : Right → Right = λ r. record r { state = effects.sweep_state line r.state } in
    record {
      revoked = ap is_revoked state;
      swept = slice_set swept line true;
      sets = λ next same. record {
        here =
            ap (λ (x : TableState). fin.get x.rights post.key) same
            ∙ state_set m.tables.rights post.key sweeps right is
            ∙ ap (λ (s : RightState). Some (record right { state = effects.sweep_state line s })) state;
        others = λ other differ.
            ap (λ (x : TableState). fin.get x.rights other) same
            ∙ other_key-change key_cmp_total m.tables.rights post.key sweeps other (other_keys other post.key differ);
      };
    }

moves_by : (m : State) (post : Posted) (right : Right) (row : Row) (tables : TableState) → fin.get m.tables.rights post.key ≡ Some right →
    (state : RightState) → right.state ≡ state → invalidate m.tables post state ≡ Some (engines.Changes row tables) → IsMove m post right tables
moves_by m post right row tables is states.On state does = absurd (none-some _ does)
moves_by m post right row tables is states.Cleared state does = by (nat_eq (engines_in m.tables.walks post.key) 0) (same_Some _ _ does)
  where
    by : (b : Bool) →
        cond b (engines.Changes rows.Drain (effects.drain m.tables post.key)) (engines.WaitsFor (waits.InFlight post.key (engines_in m.tables.walks post.key)))
        ≡ engines.Changes row tables → IsMove m post right tables
    by true changes =
        subst (IsMove m post right) (same_Some _ tables (ap changed_to changes)) (drained_move m post right is (ap is_revoked state))
    by false changes = absurd (none-some tables (ap changed_to changes))
moves_by m post right row tables is (states.Drained swept) state does = by (position not swept) (same_Some _ _ does)
  where
    by : (o : Option ℕ) →
        option_map_or (λ line. engines.Changes (rows.Sweep line) (effects.sweep m.tables line post.key)) o (detach m.tables post)
        ≡ engines.Changes row tables → IsMove m post right tables
    by None changes = absurd (none-some tables (ap changed_to changes))
    by (Some line) changes =
        subst (IsMove m post right) (same_Some _ tables (ap changed_to changes)) (swept_move m post right line swept is state)

-- an end detaches the right
record IsEnd (m : State) (post : Posted) (right : Right) (entry : Entry) (tables : TableState) : Type 0 where
  revoked : is_revoked right.state ≡ true
  entry_is : entry ≡ entries.Detached post.by post.key.process post.key.fd post.key.part
  tables_are : tables ≡ effects.detach m.tables post.key

ends_by : (m : State) (post : Posted) (right : Right) (entry : Entry) (tables : TableState) (state : RightState) → right.state ≡ state →
    invalidate m.tables post state ≡ Some (engines.Ends entry tables) → IsEnd m post right entry tables
ends_by m post right entry tables states.On state does = absurd (none-some _ does)
ends_by m post right entry tables states.Cleared state does = absurd (by (nat_eq (engines_in m.tables.walks post.key) 0) (same_Some _ _ does))
  where
    by : (b : Bool) →
        cond b (engines.Changes rows.Drain (effects.drain m.tables post.key)) (engines.WaitsFor (waits.InFlight post.key (engines_in m.tables.walks post.key)))
        ≡ engines.Ends entry tables → ⊥
    by true ends = none-some (entry, tables) (ap ended_to ends)
    by false ends = none-some (entry, tables) (ap ended_to ends)
ends_by m post right entry tables (states.Drained swept) state does = by (position not swept) (same_Some _ _ does)
  where
    by : (o : Option ℕ) →
        option_map_or (λ line. engines.Changes (rows.Sweep line) (effects.sweep m.tables line post.key)) o (detach m.tables post)
        ≡ engines.Ends entry tables → IsEnd m post right entry tables
    by None ends =
        let same : (entries.Detached post.by post.key.process post.key.fd post.key.part, effects.detach m.tables post.key) ≡ (entry, tables) =
        same_Some _ (entry, tables) (ap ended_to ends) in
        record {
          revoked = ap is_revoked state;
          entry_is = ap (λ (x : Entry × TableState). x.0) (sym same);
          tables_are = ap (λ (x : Entry × TableState). x.1) (sym same);
        }
    by (Some line) ends = absurd (none-some (entry, tables) (ap ended_to ends))

-- ---- what that does to rights and requests

-- entries of which one clears the right are some
some_entries : (key : Key) (xs : List Entry) → list_any (is_clear_at key) xs ≡ true → xs ≢ []
some_entries key xs some none = both_ways (list_any (is_clear_at key) xs) (ap (list_any (is_clear_at key)) none) some

-- a turn of the invalidation engine that changes the tables moves the right of the request at the front
pub change_moves : (m next : State) (p : Place) (row : Row) (tables : TableState) → ArePosted m → posting_place m ≡ Some p →
    invalidation_of m.tables m.posted ≡ Some (engines.Changes row tables) → next.tables ≡ tables → next.posted ≡ m.posted →
    (p.before ≢ []) × (running m p.at.process ≡ Some p) × Changes m next p None
change_moves m next p row tables posted place is same posts_same =
    let by = invalidates m (engines.Changes row tables) is in
    let front = front_of m p by.post by.rest posted by.posted_is place in
    let move = moves_by m by.post by.right row tables by.right_is by.right.state refl by.does in (
      some_entries by.post.key p.before front.cleared,
      front.runs,
      moves by.post by.rest by.right move.swept front by.right_is move.revoked (move.sets next same) posts_same refl,
    )

-- one that ends a request detaches the right of the one at the front
pub end_detaches : (m next : State) (p : Place) (entry : Entry) (tables : TableState) → ArePosted m → posting_place m ≡ Some p →
    invalidation_of m.tables m.posted ≡ Some (engines.Ends entry tables) → next.tables ≡ tables → next.posted ≡ drop 1 m.posted →
    (p.before ≢ []) × (running m p.at.process ≡ Some p)
    × ((post : Posted) × (entry ≡ entries.Detached post.by post.key.process post.key.fd post.key.part)) × Changes m next p (Some entry)
end_detaches m next p entry tables posted place is same dropped =
    let by = invalidates m (engines.Ends entry tables) is in
    let front = front_of m p by.post by.rest posted by.posted_is place in
    let end = ends_by m by.post by.right entry tables by.right.state refl by.does in
    let key : Key = by.post.key in
    let detached : next.tables ≡ effects.detach m.tables key = same ∙ end.tables_are in (
      some_entries key p.before front.cleared,
      front.runs,
      (by.post, end.entry_is),
      detaches by.post by.rest by.right front by.right_is end.revoked
          (record {
            here = ap (λ (x : TableState). fin.get x.rights key) detached ∙ same_key-remove key_cmp_total m.tables.rights key;
            others = λ other differ.
                ap (λ (x : TableState). fin.get x.rights other) detached
                ∙ other_key-remove key_cmp_total m.tables.rights key other (other_keys other key differ);
          })
          (dropped ∙ ap (drop 1) by.posted_is),
    )

-- ---- posting

-- the key that an action posts
abbrev posted_in : Action → Option Key
posted_in (processors.Posts key) = Some key
posted_in action = None

-- a key that is posted is the unposted one of those that the call has to revoke
pub posts_unposted : (m : State) (p : Place) (key : Key) → next_action m p ≡ Some (processors.Posts key) →
    unposted m (keys_to_revoke m.store p p.call) ≡ Some key
posts_unposted m p key acting =
    let goes : Ahead m p (processors.Posts key) = ahead m p (processors.Posts key) acting refl in
    by goes.act goes.later goes.for_act
  where
    not_entry : (o : Option Entry) → option_map (λ (entry : Entry). processors.Adds (row_of_entry entry) entry) o ≡ Some (processors.Posts key) → ⊥
    not_entry o is =
        let found = map_from (λ (entry : Entry). processors.Adds (row_of_entry entry) entry) o (processors.Posts key) is in
        none-some key (ap posted_in found.2)

    not_poll : (b : Bool) (wait : Wait) → cond b (processors.WaitsFor wait) processors.Polls ≡ processors.Posts key → ⊥
    not_poll true wait is = none-some key (ap posted_in is)
    not_poll false wait is = none-some key (ap posted_in is)

    by : (act : Act) → option_or (revoke (keys_to_revoke m.store p p.call)) (own_act m.store (holder_of m) (running_of m p) p.call) ≡ Some act →
        action_for m p act ≡ Some (processors.Posts key) → unposted m (keys_to_revoke m.store p p.call) ≡ Some key
    by (acts.Busy file holder) later is = absurd (none-some key (ap posted_in (same_Some _ _ is)))
    by (acts.Revoke keys) later is =
        let just = revokes_just m.store (holder_of m) (running_of m p) p.call (keys_to_revoke m.store p p.call) keys later in
        subst (λ (ks : List Key). unposted m ks ≡ Some key) just (revokes-posts m p keys key (same_Some _ _ is))
    by (acts.Submit piece) later is = absurd (none-some key (ap posted_in (same_Some _ _ is)))
    by acts.Poll later is = absurd (not_poll (is_none_of (progress_of m p.at.process).completed) _ (same_Some _ _ is))
    by act later is = absurd (not_entry (entry_of_act m.store p act) is)
