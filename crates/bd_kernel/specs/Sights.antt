-- What is decided from files and descriptors alone, whatever else a store holds.
use Rattle.std.specs.Prelude.{◌≡◌, ℕ, Option, List, []}
use Rattle.bd_base.specs.declared.script.Call.{Call}
use Rattle.bd_entry.specs.declared.entry.Entry.{Entry}
use Rattle.bd_entry.specs.Calls.{Place, opened_fd}
use Rattle.bd_entry.specs.Store.{Store, user_of}
use Rattle.bd_fs.specs.Files.{Files}
use Rattle.bd_kernel.specs.Changes.{Rows}

-- the store of these files and descriptors, with these users, bytes and entries of running calls
abbrev pub store_of : Files → Rows → List ℕ → List ℕ → List (List Entry) → Store
store_of fs rows uids bytes work =
    record { total = fs.total; uids = uids; files = fs.files; bytes = bytes; opens = rows; work = work }

-- the same with no user, no byte and no running call, where these are not looked at
abbrev pub bare : Files → Rows → Store
bare fs rows = store_of fs rows [] [] []

-- no file in no block, where files are not looked at
abbrev pub no_files : Files
no_files = record { total = 0; files = [] }

-- this holds in each store of these files and descriptors
abbrev pub InStore : Files → Rows → (Store → Type 0) → Type 0
InStore fs rows Holds = (uids bytes : List ℕ) (work : List (List Entry)) → Holds (store_of fs rows uids bytes work)

-- this holds in each of them where the process has this user
abbrev pub ForUser : Files → Rows → ℕ → ℕ → (Store → Type 0) → Type 0
ForUser fs rows process uid Holds = InStore fs rows (λ s. user_of s process ≡ uid → Holds s)

-- the place of the next entry of a process's call, which has this number and these entries
abbrev pub place_of : Call → ℕ → ℕ → List Entry → Place
place_of call process number before =
    record { call = call; at = record { process = process; call = number }; before = before }

-- this holds at the place of the call's next entry in each of them, whatever its entries are of which this is the
-- descriptor that they opened
abbrev pub AtPlace : Files → Rows → Call → ℕ → Option ℕ → (Store → Place → Type 0) → Type 0
AtPlace fs rows call process opened Holds =
    InStore fs rows
    (λ s. (number : ℕ) (before : List Entry) → opened ≡ opened_fd before →
    Holds s (place_of call process number before))
