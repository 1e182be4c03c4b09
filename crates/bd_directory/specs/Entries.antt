-- What contracts see of the directory: an entry for each key, in the order of the keys.
use Rattle.std.specs.Prelude.{ℕ, ◌+◌, min, Bool, ◌&&◌, not, cond, Option, None, Some, Result, Ok, Err, List}
use Rattle.std.proofs.Common.{set, get_or}
use Rattle.bd_base.specs.declared.journal.Found.{Found}
use Rattle.bd_base.specs.declared.journal.Found.TheVariants.{NoDirectory, NoRight}
use Rattle.bd_base.specs.declared.key.Key.{Key}
use Rattle.bd_base.specs.Keys.{key_number}
use Rattle.bd_directory.specs.declared.directory.Entry.{Entry}
use Rattle.bd_directory.specs.declared.directory.Grant.{Grant}

-- the entries of all keys
abbrev pub EntryList : Type 0
EntryList = List Entry

-- an entry without a right and with nobody in it
abbrev pub blank : Entry
blank = record { grant = None; count = 0 }

-- the entry of this key
abbrev pub entry_at : EntryList → Key → Entry
entry_at entries key = get_or entries (key_number key) blank

-- these entries with that one for this key
abbrev pub with_entry : EntryList → Key → Entry → EntryList
with_entry entries key entry = set entries (key_number key) entry

-- these entries with that right for this key, or none; its count stays
abbrev pub with_grant : EntryList → Key → Option Grant → EntryList
with_grant entries key grant = with_entry entries key (record (entry_at entries key) { grant = grant })

-- these entries with that count for this key; its right stays
abbrev pub with_count : EntryList → Key → ℕ → EntryList
with_count entries key count = with_entry entries key (record (entry_at entries key) { count = count })

-- a count that rose by one, as far as its 64 bits go
abbrev pub risen : ℕ → ℕ
risen count = min (count + 1) 0xffff_ffff_ffff_ffff

-- what an enter answers: no directory where no right is there, else no right where a write is asked for and not
-- allowed, else the fragment
abbrev pub entered : Bool → Option Grant → Result ℕ Found
entered write None = Err NoDirectory
entered write (Some grant) = cond (write && not grant.write) (Err NoRight) (Ok grant.fragment)
