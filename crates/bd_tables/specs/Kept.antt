-- What always holds of tables for one thread, beside what always holds of the tables.
use Rattle.std.specs.Prelude.{◌≡◌, ℕ, ◌<◌, ◌≤◌, Bool, not, nat_eq, Option, None, Some, length}
use Rattle.std.proofs.Common.{get_or}
use Rattle.std.specs.FinMap as fin
use Rattle.std.specs.Option.{option_map}
use Rattle.bd_base.specs.declared.key.Key.{Key}
use Rattle.bd_base.specs.declared.key_list.TheConstants.{MOST_KEYS}
use Rattle.bd_base.specs.declared.limits.TheConstants.{PROCESSES}
use Rattle.bd_base.specs.Keys.{Pair, key_of}
use Rattle.bd_directory.specs.declared.directory.Entry.{Entry}
use Rattle.bd_directory.specs.declared.directory.Grant.{Grant}
use Rattle.bd_directory.specs.Entries.{EntryList, blank}
use Rattle.bd_file_table.specs.Fragments.{Book, number_of}
use Rattle.bd_tables.specs.declared.plain.PlainTables.TheInside.{Inside}
use Rattle.bd_tables.specs.declared.request.Request.{Request}
use Rattle.bd_tables.specs.declared.state.Right.{Right}
use Rattle.bd_tables.specs.declared.state.RightState.{RightState}
use Rattle.bd_tables.specs.declared.state.RightState.TheVariants.{On, Cleared, Drained}
use Rattle.bd_tables.specs.Plain.{Places, PlainState, tables_of, walks_of}
use Rattle.bd_tables.specs.Sound.{IsKey, IsSound}
use Rattle.bd_tables.specs.State.{Rights, engines_in, pair_under, request_of, users, walk_at}

-- the number of the fragment of a pair, None where it has none
abbrev pub fragment_of : Book → Pair → Option ℕ
fragment_of book pair = option_map number_of (fin.get book pair)

-- what the directory shows of a right in this state
abbrev pub grant_in : RightState → Option ℕ → Bool → Option Grant
grant_in On fragment write = option_map (λ n. record { fragment = n; write = write }) fragment
grant_in Cleared fragment write = None
grant_in (Drained swept) fragment write = None

abbrev pub grant_of : Book → Key → Option Right → Option Grant
grant_of book key None = None
grant_of book key (Some right) = grant_in right.state (fragment_of book (pair_under key right)) right.write

-- the entry of the directory shows the right of the key exactly where it is On, and counts the engines in the key
pub record IsMirrored (rights : Rights) (book : Book) (places : Places) (key : Key) (entry : Entry) : Type 0 where
  pub grant : entry.grant ≡ grant_of book key (fin.get rights key)
  pub count : entry.count ≡ engines_in (walks_of places) key

abbrev pub AreMirrored : Rights → Book → Places → EntryList → Type 0
AreMirrored rights book places directory =
    (n : ℕ) → n < MOST_KEYS → IsMirrored rights book places (key_of n) (get_or directory n blank)

-- the pairs that have a fragment are those that keys use
abbrev pub AreInUse : Rights → Book → Type 0
AreInUse rights book = (pair : Pair) → fin.contains_key book pair ≡ not (nat_eq (users rights pair) 0)

-- the request of an engine in a key of its own process, one that there may be
pub record IsOwnOf (owner : ℕ) (request : Request) : Type 0 where
  pub process : request.key.process ≡ owner
  pub key : IsKey request.key

-- the passes are of at most 16 processes, and each engine is in no key but one of its own process
pub record AreOwn (places : Places) : Type 0 where
  pub few : length places ≤ PROCESSES
  pub own : (process : ℕ) (request : Request) → request_of (walk_at (walks_of places) process) ≡ Some request →
      IsOwnOf process request

-- what contracts see of the parts
abbrev pub state_inside : Inside → PlainState
state_inside a = record { rights = a.rights; book = a.pool; lines = a.lines; places = a.places.items }

pub record IsKept (plain : PlainState) (directory : EntryList) : Type 0 where
  pub entries : length directory ≡ MOST_KEYS
  pub passes : AreOwn plain.places
  pub mirrored : AreMirrored plain.rights plain.book plain.places directory
  pub in_use : AreInUse plain.rights plain.book
  pub sound : IsSound (tables_of plain)
