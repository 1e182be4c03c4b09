-- What a processor adds an entry for: an act of its call, or the next key that is cleared.
use Rattle.std.proofs.Common.{◌≡◌, ◌⊎◌, inl, inr, ℕ, Bool, true, false, cond, List, length, Option, None, Some, refl, sym, ap, ◌∙◌, ⊎_elim}
use Rattle.std.specs.Prelude.{nat_lt}
use Rattle.std.specs.Option.{option_map}
use Rattle.std.proofs.lemmas.Option.{none-some, same_Some}
use Rattle.bd_base.specs.declared.key.Key.{Key}
use Rattle.bd_base.specs.declared.limits.TheConstants.{POSTS}
use Rattle.bd_entry.specs.declared.act.Act.{Act}
use Rattle.bd_entry.specs.declared.act.Act.TheVariants as acts
use Rattle.bd_entry.specs.declared.entry.Entry.{Entry}
use Rattle.bd_entry.specs.declared.entry.Entry.TheVariants as entries
use Rattle.bd_entry.specs.Actions.{entry_of_act, is_none_of, next_act}
use Rattle.bd_entry.specs.Calls.{Place}
use Rattle.bd_entry.proofs.NextActs.{map_from, then_from}
use Rattle.bd_turns.specs.declared.turn.Row.{Row}
use Rattle.bd_turns.specs.declared.turn.Wait.{Wait}
use Rattle.bd_turns.specs.declared.turn.Wait.TheVariants as waits
use Rattle.bd_turns.specs.Processors as processors
use Rattle.bd_turns.specs.Processors.{Action, action_for, add_entry, clear, least_outstanding, next_action, poll, post, revocation, row_of_entry, running_of, uncleared, unposted}
use Rattle.bd_turns.specs.State.{State, holder_of, outstanding, progress_of}

-- the entry that an action adds
abbrev added_entry : Action → Option Entry
added_entry (processors.Adds row e) = Some e
added_entry action = None

-- a key that is to be cleared is, once none is to be posted
pub record Clears (m : State) (p : Place) (keys : List Key) (e : Entry) : Type 0 where
  pub key : Key
  pub next : uncleared m keys ≡ Some key
  pub entry : entries.Cleared p.at key.process key.fd key.part ≡ e

post_adds_none : (m : State) (key : Key) → added_entry (post m key) ≡ None
post_adds_none m key = by (nat_lt (length m.posted) POSTS)
  where
    by : (b : Bool) → added_entry (cond b (processors.Posts key) (processors.WaitsFor (waits.QueueFull POSTS))) ≡ None
    by true = refl
    by false = refl

revocation-posts : (m : State) (p : Place) (keys : List Key) (key : Key) → unposted m keys ≡ Some key →
    revocation m p keys ≡ post m key
revocation-posts m p keys key is = rw is refl

revocation-clears : (m : State) (p : Place) (keys : List Key) (key : Key) → unposted m keys ≡ None →
    uncleared m keys ≡ Some key → revocation m p keys ≡ clear p key
revocation-clears m p keys key none is = rw none (rw is refl)

revocation-waits : (m : State) (p : Place) (keys : List Key) → unposted m keys ≡ None →
    uncleared m keys ≡ None → added_entry (revocation m p keys) ≡ None
revocation-waits m p keys none is = rw none (rw is refl)

-- what a revocation adds
revocation_adds : (m : State) (p : Place) (keys : List Key) (row : Row) (e : Entry) →
    revocation m p keys ≡ processors.Adds row e → Clears m p keys e
revocation_adds m p keys row e is = by (unposted m keys) refl (uncleared m keys) refl
  where
    adds : added_entry (revocation m p keys) ≡ Some e
    adds = ap added_entry is

    by : (u : Option Key) → unposted m keys ≡ u → (c : Option Key) → uncleared m keys ≡ c → Clears m p keys e
    by (Some key) first c next =
        absurd (none-some e (sym (ap added_entry (revocation-posts m p keys key first) ∙ post_adds_none m key) ∙ adds))
    by None first None next = absurd (none-some e (sym (revocation-waits m p keys first next) ∙ adds))
    by None first (Some key) next =
        record {
          key = key;
          next = next;
          entry =
              same_Some (entries.Cleared p.at key.process key.fd key.part) e
              (sym (ap added_entry (revocation-clears m p keys key first next)) ∙ adds);
        }

-- ---- what a processor adds

-- the entry of an act of its call
pub record IsOfAct (m : State) (p : Place) (e : Entry) : Type 0 where
  pub act : Act
  pub next : next_act m.store (holder_of m) (running_of m p) ≡ Some act
  pub adds : entry_of_act m.store p act ≡ Some e

-- the next key that is cleared of those that its call revokes
pub record IsClear (m : State) (p : Place) (e : Entry) : Type 0 where
  pub keys : List Key
  pub next : next_act m.store (holder_of m) (running_of m p) ≡ Some (acts.Revoke keys)
  pub clears : Clears m p keys e

poll_adds_none : (m : State) (p : Place) → added_entry (poll (progress_of m p.at.process)) ≡ None
poll_adds_none m p =
    by (is_none_of (progress_of m p.at.process).completed)
    (waits.Completion (least_outstanding (outstanding (progress_of m p.at.process))))
  where
    by : (b : Bool) (wait : Wait) → added_entry (cond b (processors.WaitsFor wait) processors.Polls) ≡ None
    by true wait = refl
    by false wait = refl

act_adds : (m : State) (p : Place) (act : Act) (row : Row) (e : Entry) → action_for m p act ≡ Some (processors.Adds row e) →
    (entry_of_act m.store p act ≡ Some e) ⊎ ((keys : List Key) × (act ≡ acts.Revoke keys) × Clears m p keys e)
act_adds m p (acts.Busy file holder) row e is =
    absurd (none-some e (ap added_entry (same_Some (processors.WaitsFor (waits.Busy file holder)) (processors.Adds row e) is)))
act_adds m p (acts.Revoke keys) row e is =
    inr (keys, refl, revocation_adds m p keys row e (same_Some (revocation m p keys) (processors.Adds row e) is))
act_adds m p (acts.Submit piece) row e is =
    absurd (none-some e (ap added_entry (same_Some (processors.Submits piece) (processors.Adds row e) is)))
act_adds m p acts.Poll row e is =
    absurd
    (none-some e
    (sym (poll_adds_none m p)
    ∙ ap added_entry (same_Some (poll (progress_of m p.at.process)) (processors.Adds row e) is)))
act_adds m p act row e is = inl (of_added (entry_of_act m.store p act) is)
  where
    of_added : (o : Option Entry) →
        option_map (λ entry. processors.Adds (row_of_entry entry) entry) o ≡ Some (processors.Adds row e) → o ≡ Some e
    of_added o is =
        let found = map_from (λ entry. processors.Adds (row_of_entry entry) entry) o (processors.Adds row e) is in
        found.1 ∙ ap added_entry found.2

pub processor_adds : (m : State) (p : Place) (row : Row) (e : Entry) → next_action m p ≡ Some (processors.Adds row e) →
    IsOfAct m p e ⊎ IsClear m p e
processor_adds m p row e is =
    let found = then_from (action_for m p) (next_act m.store (holder_of m) (running_of m p)) (processors.Adds row e) is in
    ⊎_elim
    (λ adds. inl (record { act = found.0; next = found.1; adds = adds }))
    (λ clears. inr (record { keys = clears.0; next = found.1 ∙ ap Some clears.1; clears = clears.2 }))
    (act_adds m p found.0 row e found.2)

-- ---- what a processor submits

-- the piece that an action submits
abbrev submitted_piece : Action → Option ℕ
submitted_piece (processors.Submits piece) = Some piece
submitted_piece action = None

revocation-submits : (m : State) (p : Place) (keys : List Key) → submitted_piece (revocation m p keys) ≡ None
revocation-submits m p keys = by (unposted m keys) refl (uncleared m keys) refl
  where
    of_post : (b : Bool) (key : Key) → submitted_piece (cond b (processors.Posts key) (processors.WaitsFor (waits.QueueFull POSTS))) ≡ None
    of_post true key = refl
    of_post false key = refl

    by : (u : Option Key) → unposted m keys ≡ u → (c : Option Key) → uncleared m keys ≡ c → submitted_piece (revocation m p keys) ≡ None
    by (Some key) first c next =
        ap submitted_piece (revocation-posts m p keys key first) ∙ of_post (nat_lt (length m.posted) POSTS) key
    by None first None next = rw first (rw next refl)
    by None first (Some key) next = ap submitted_piece (revocation-clears m p keys key first next)

poll-submits : (m : State) (p : Place) → submitted_piece (poll (progress_of m p.at.process)) ≡ None
poll-submits m p =
    by (is_none_of (progress_of m p.at.process).completed)
    (waits.Completion (least_outstanding (outstanding (progress_of m p.at.process))))
  where
    by : (b : Bool) (wait : Wait) → submitted_piece (cond b (processors.WaitsFor wait) processors.Polls) ≡ None
    by true wait = refl
    by false wait = refl

act_submits : (m : State) (p : Place) (act : Act) (piece : ℕ) → action_for m p act ≡ Some (processors.Submits piece) →
    act ≡ acts.Submit piece
act_submits m p (acts.Busy file holder) piece is =
    absurd (none-some piece (ap submitted_piece (same_Some (processors.WaitsFor (waits.Busy file holder)) (processors.Submits piece) is)))
act_submits m p (acts.Revoke keys) piece is =
    absurd
    (none-some piece
    (sym (revocation-submits m p keys) ∙ ap submitted_piece (same_Some (revocation m p keys) (processors.Submits piece) is)))
act_submits m p (acts.Submit number) piece is =
    ap acts.Submit
    (same_Some number piece (ap submitted_piece (same_Some (processors.Submits number) (processors.Submits piece) is)))
act_submits m p acts.Poll piece is =
    absurd
    (none-some piece
    (sym (poll-submits m p)
    ∙ ap submitted_piece (same_Some (poll (progress_of m p.at.process)) (processors.Submits piece) is)))
act_submits m p act piece is = absurd (of_added (entry_of_act m.store p act) is)
  where
    of_added : (o : Option Entry) →
        option_map (λ entry. processors.Adds (row_of_entry entry) entry) o ≡ Some (processors.Submits piece) → ⊥
    of_added o is =
        let found = map_from (λ entry. processors.Adds (row_of_entry entry) entry) o (processors.Submits piece) is in
        none-some piece (ap submitted_piece found.2)

-- a processor submits what the next act of its call does
pub processor_submits : (m : State) (p : Place) (piece : ℕ) → next_action m p ≡ Some (processors.Submits piece) →
    next_act m.store (holder_of m) (running_of m p) ≡ Some (acts.Submit piece)
processor_submits m p piece is =
    let found = then_from (action_for m p) (next_act m.store (holder_of m) (running_of m p)) (processors.Submits piece) is in
    found.1 ∙ ap Some (act_submits m p found.0 piece found.2)
