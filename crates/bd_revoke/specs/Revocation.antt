-- A revocation in progress.
use Rattle.std.specs.Prelude.{ℕ, ◌+◌, Option, None, Some, List, [], ◌++◌, length, slice_get}
use Rattle.std.specs.List.{before_first, after_first}
use Rattle.std.specs.Option.{option_to_list}
use Rattle.bd_base.specs.declared.journal.At.{At}
use Rattle.bd_base.specs.declared.key.Key.{Key}
use Rattle.bd_base.specs.Keys.{same_key}

-- the keys to be cleared, the one that is cleared and to be posted, those that wait to be detached, and the call
pub record Revocation : Type 0 where
  pub to_clear : List Key
  pub to_post : Option Key
  pub waiting : List Key
  pub by : At

-- nothing is done yet
abbrev pub beginning : List Key → At → Revocation
beginning keys by = record { to_clear = keys; to_post = None; waiting = []; by = by }

-- how many keys are not yet detached
abbrev pub left_of : Revocation → ℕ
left_of r = length r.to_clear + length (option_to_list r.to_post) + length r.waiting

-- the keys that are not yet detached, in order
abbrev pub keys_left : Revocation → List Key
keys_left r = r.waiting ++ option_to_list r.to_post ++ r.to_clear

-- the first of these keys, where none is to be posted before
abbrev pub first_to_clear : Option Key → List Key → Option Key
first_to_clear None keys = slice_get keys 0
first_to_clear (Some key) keys = None

-- the key that is to be cleared next, where a clear is next
abbrev pub key_to_clear : Revocation → Option Key
key_to_clear r = first_to_clear r.to_post r.to_clear

-- the keys without this one, in the same order
abbrev pub without : Key → List Key → List Key
without key keys = before_first (λ other. same_key other key) keys ++ after_first (λ other. same_key other key) keys

-- the revocation after a key was counted off
abbrev pub counted_off : Revocation → Key → Revocation
counted_off r key = record r { waiting = without key r.waiting }
