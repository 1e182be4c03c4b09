-- What the next turn of a revocation is.
use Rattle.std.proofs.Common.{◌≡◌, Bool, true, false, cond, List, length, Option, None, Some, refl, sym, ap, ◌∙◌}
use Rattle.std.specs.Prelude.{nat_lt}
use Rattle.std.proofs.lemmas.Option.{none-some, same_Some}
use Rattle.bd_base.specs.declared.key.Key.{Key}
use Rattle.bd_base.specs.declared.limits.TheConstants.{POSTS}
use Rattle.bd_entry.specs.declared.entry.Entry.{Entry}
use Rattle.bd_entry.specs.declared.entry.Entry.TheVariants as entries
use Rattle.bd_entry.specs.Calls.{Place}
use Rattle.bd_turns.specs.declared.turn.Row.{Row}
use Rattle.bd_turns.specs.declared.turn.Wait.{Wait}
use Rattle.bd_turns.specs.declared.turn.Wait.TheVariants as waiting
use Rattle.bd_turns.specs.Processors as processors
use Rattle.bd_turns.specs.Processors.{Action, clear, post, revocation, row_of_entry, uncleared, unposted}
use Rattle.bd_turns.specs.State.{State}

-- the key that was cleared last is posted, or the next one is cleared, or the process waits
pub data Revokes (m : State) (p : Place) (keys : List Key) : Action → Type 0 where
  posts : (key : Key) → unposted m keys ≡ Some key → Revokes m p keys (processors.Posts key)
  clears : (key : Key) → unposted m keys ≡ None → uncleared m keys ≡ Some key → Revokes m p keys (clear p key)
  waits : (wait : Wait) → Revokes m p keys (processors.WaitsFor wait)

pub revokes : (m : State) (p : Place) (keys : List Key) → Revokes m p keys (revocation m p keys)
revokes m p keys = by (unposted m keys) refl (uncleared m keys) refl
  where
    posting : (b : Bool) (key : Key) → unposted m keys ≡ Some key →
        Revokes m p keys (cond b (processors.Posts key) (processors.WaitsFor (waiting.QueueFull POSTS)))
    posting true key is = posts key is
    posting false key is = waits _

    by : (first : Option Key) → unposted m keys ≡ first → (next : Option Key) → uncleared m keys ≡ next → Revokes m p keys (revocation m p keys)
    by (Some key) is next is_next = rw is (posting (nat_lt (length m.posted) POSTS) key is)
    by None none (Some key) is = rw (none, is) (clears key none is)
    by None none None is = rw (none, is) (waits _)

-- the entry that an action adds
abbrev added_by : Action → Option Entry
added_by (processors.Adds row e) = Some e
added_by action = None

-- the key that an action posts
abbrev posted_by : Action → Option Key
posted_by (processors.Posts key) = Some key
posted_by action = None

-- a revocation adds the entry that clears the next key, where none is to be posted
pub record Clears (m : State) (p : Place) (keys : List Key) (e : Entry) : Type 0 where
  pub key : Key
  pub none_unposted : unposted m keys ≡ None
  pub next : uncleared m keys ≡ Some key
  pub entry_is : e ≡ entries.Cleared p.at key.process key.fd key.part

-- the row of what an action adds
abbrev row_by : Action → Option Row
row_by (processors.Adds row e) = Some row
row_by action = None

-- it is of the row of that entry
pub revokes-row : (m : State) (p : Place) (keys : List Key) (row : Row) (e : Entry) → revocation m p keys ≡ processors.Adds row e → row_of_entry e ≡ row
revokes-row m p keys row e is = by (revocation m p keys) (revokes m p keys) (ap added_by is) (ap row_by is)
  where
    by : (action : Action) → Revokes m p keys action → added_by action ≡ Some e → row_by action ≡ Some row → row_of_entry e ≡ row
    by action (posts key unposted) adds of_row = absurd (none-some e adds)
    by action (clears key none next) adds of_row = ap row_of_entry (sym (same_Some _ e adds)) ∙ same_Some _ row of_row
    by action (waits wait) adds of_row = absurd (none-some e adds)

pub revokes-adds : (m : State) (p : Place) (keys : List Key) (row : Row) (e : Entry) → revocation m p keys ≡ processors.Adds row e → Clears m p keys e
revokes-adds m p keys row e is = by (revocation m p keys) (revokes m p keys) (ap added_by is)
  where
    by : (action : Action) → Revokes m p keys action → added_by action ≡ Some e → Clears m p keys e
    by action (posts key unposted) adds = absurd (none-some e adds)
    by action (clears key none next) adds = record { key = key; none_unposted = none; next = next; entry_is = sym (same_Some _ e adds) }
    by action (waits wait) adds = absurd (none-some e adds)

-- and posts the key that was cleared last
pub revokes-posts : (m : State) (p : Place) (keys : List Key) (key : Key) → revocation m p keys ≡ processors.Posts key → unposted m keys ≡ Some key
revokes-posts m p keys key is = by (revocation m p keys) (revokes m p keys) (ap posted_by is)
  where
    by : (action : Action) → Revokes m p keys action → posted_by action ≡ Some key → unposted m keys ≡ Some key
    by action (posts other unposted) posts_it = unposted ∙ posts_it
    by action (clears other none next) posts_it = absurd (none-some key posts_it)
    by action (waits wait) posts_it = absurd (none-some key posts_it)
