-- What a processor does next for its running call.
use Rattle.std.specs.Prelude.{ℕ, min, nat_lt, cond, Bool, true, false, not, ◌||◌, List, [], ◌∷◌, length, Option, None, Some}
use Rattle.std.specs.Option.{option_and_then, option_map}
use Rattle.std.specs.List.{find, list_any}
use Rattle.std.specs.FinMap as fin
use Rattle.bd_base.specs.declared.key.Key.{Key}
use Rattle.bd_base.specs.declared.limits.TheConstants.{POSTS}
use Rattle.bd_base.specs.Keys.{same_key}
use Rattle.bd_entry.specs.declared.act.Act.{Act}
use Rattle.bd_entry.specs.declared.act.Act.TheVariants as acts
use Rattle.bd_entry.specs.declared.entry.Entry.{Entry}
use Rattle.bd_entry.specs.declared.entry.Entry.TheVariants as entries
use Rattle.bd_entry.specs.Actions.{Running, entry_of_act, is_none_of, next_act}
use Rattle.bd_entry.specs.Calls.{Place}
use Rattle.bd_tables.specs.declared.state.Right.{Right}
use Rattle.bd_tables.specs.declared.state.RightState.{RightState}
use Rattle.bd_tables.specs.declared.state.RightState.TheVariants as states
use Rattle.bd_turns.specs.declared.turn.Row.{Row}
use Rattle.bd_turns.specs.declared.turn.Row.TheVariants as rows
use Rattle.bd_turns.specs.declared.turn.Wait.{Wait}
use Rattle.bd_turns.specs.declared.turn.Wait.TheVariants as waits
use Rattle.bd_turns.specs.State.{Posted, Progress, State, holder_of, outstanding, progress_of}

-- what a processor's turn does for its running call: it adds an entry, posts the invalidation of a key, submits the
-- command of a piece, takes a completion, or waits
pub data Action : Type 0 where
  Adds : (row : Row) (entry : Entry) → Action
  Posts : (key : Key) → Action
  Submits : (piece : ℕ) → Action
  Polls : Action
  WaitsFor : (wait : Wait) → Action

-- ---- revocation

-- whether a right in this state is not revoked
abbrev pub is_on_state : RightState → Bool
is_on_state states.On = true
is_on_state states.Cleared = false
is_on_state (states.Drained swept) = false

-- whether the right of the key is attached and not revoked
abbrev pub is_on : Option Right → Bool
is_on None = false
is_on (Some right) = is_on_state right.state

-- whether the invalidation of the key is posted
abbrev pub is_posted : List Posted → Key → Bool
is_posted posted key = list_any (λ (post : Posted). same_key post.key key) posted

-- the key that was cleared last, where it is not posted yet
abbrev pub unposted : State → List Key → Option Key
unposted m keys = find (λ key. not (is_on (fin.get m.tables.rights key) || is_posted m.posted key)) keys

-- the next key to clear
abbrev pub uncleared : State → List Key → Option Key
uncleared m keys = find (λ key. is_on (fin.get m.tables.rights key)) keys

-- a key is posted where there is room
abbrev pub post : State → Key → Action
post m key = cond (nat_lt (length m.posted) POSTS) (Posts key) (WaitsFor (waits.QueueFull POSTS))

-- a key is cleared
abbrev pub clear : Place → Key → Action
clear p key = Adds rows.Clear (entries.Cleared p.at key.process key.fd key.part)

-- the next turn of the revocation of these keys, which are still attached: each in order is cleared and posted, and
-- then all are waited for
abbrev pub revocation : State → Place → List Key → Action
revocation m p keys =
    option_or_else (option_map (post m) (unposted m keys))
    (option_or_else (option_map (clear p) (uncleared m keys)) (WaitsFor (waits.Detaching (length keys))))
  where
    option_or_else : Option Action → Action → Action
    option_or_else None other = other
    option_or_else (Some action) other = action

-- ---- completions

-- the least of these numbers
abbrev pub least_of : ℕ → List ℕ → ℕ
least_of least [] = least
least_of least (number ∷ numbers) = least_of (min least number) numbers

-- the least of the pieces outstanding; there is one
abbrev pub least_outstanding : List ℕ → ℕ
least_outstanding [] = 0
least_outstanding (piece ∷ pieces) = least_of piece pieces

-- a completion is taken where one has come
abbrev pub poll : Progress → Action
poll progress =
    cond (is_none_of progress.completed) (WaitsFor (waits.Completion (least_outstanding (outstanding progress)))) Polls

-- ---- the next action

-- the row of the entry that an action adds
abbrev pub row_of_entry : Entry → Row
row_of_entry (entries.Opened at file fd mode how) = rows.Opened
row_of_entry (entries.Created at file name perms) = rows.Created
row_of_entry (entries.Attached at fd part) = rows.Attach
row_of_entry (entries.Mapped at fd count) = rows.Mapped
row_of_entry (entries.Cleared at owner fd part) = rows.Clear
row_of_entry (entries.Detached at owner fd part) = rows.DetachDone
row_of_entry (entries.Access at piece fd file index block range wrote way bytes) = rows.KernelAccess
row_of_entry (entries.Missed at piece found) = rows.Missed
row_of_entry (entries.Extended at file to block) = rows.Extend
row_of_entry (entries.Released at file index block) = rows.Release
row_of_entry (entries.Sized at fd size) = rows.Sized
row_of_entry (entries.SizeRead at fd size) = rows.SizeRead
row_of_entry (entries.Closed at fd) = rows.Closed
row_of_entry (entries.Unlinked at file) = rows.Unlinked
row_of_entry (entries.Refused at piece reason) = rows.Refused

-- the action adds its entry
abbrev pub add_entry : State → Place → Act → Option Action
add_entry m p act = option_map (λ entry. Adds (row_of_entry entry) entry) (entry_of_act m.store p act)

-- what the processor's turn does for the next action of its call
abbrev pub action_for : State → Place → Act → Option Action
action_for m p (acts.Busy file holder) = Some (WaitsFor (waits.Busy file holder))
action_for m p (acts.Revoke keys) = Some (revocation m p keys)
action_for m p (acts.Submit piece) = Some (Submits piece)
action_for m p acts.Poll = Some (poll (progress_of m p.at.process))
action_for m p (acts.Refuse piece reason) = add_entry m p (acts.Refuse piece reason)
action_for m p act = add_entry m p act

-- where the running call at this place is
abbrev pub running_of : State → Place → Running
running_of m p = record { place = p; outstanding = outstanding (progress_of m p.at.process) }

-- what the turn of a processor does for the running call at this place
abbrev pub next_action : State → Place → Option Action
next_action m p = option_and_then (action_for m p) (next_act m.store (holder_of m) (running_of m p))
