-- What is kept of the entries of a running call: marks of those that the rules ask about.
use Rattle.std.specs.Prelude.{◌≡◌, ℕ, ◌<◌, Bool, true, false, nat_lt, Option, Some, List, length, slice_index_or, slice_set}
use Rattle.std.specs.Option.{option_or}
use Rattle.bd_base.specs.declared.key_list.TheConstants.{MOST_KEYS}
use Rattle.bd_base.specs.declared.limits.TheConstants.{DESCRIPTORS, PARTS, PIECES, PROCESSES}
use Rattle.bd_base.specs.Keys.{key_number}
use Rattle.bd_entry.specs.declared.entry.Entry.{Entry}
use Rattle.bd_entry.specs.declared.entry.Entry.TheVariants.{Access, Cleared, Missed, Opened, Refused}
use Rattle.bd_entry.specs.Calls.{has_cleared, has_missed, is_answered, opened_fd}

-- whether there is an entry, the descriptor of its Opened, and marks of the pieces that are answered, of those that
-- missed, and of the keys that are cleared
pub record Marks : Type 0 where
  pub begun : Bool
  pub opened : Option ℕ
  pub answered : List Bool
  pub missed : List Bool
  pub cleared : List Bool

-- whether the mark of this number is set
abbrev pub is_marked : List Bool → ℕ → Bool
is_marked marks number = slice_index_or marks number false

-- a process, one of its descriptors, and a part
pub record IsKey (process fd part : ℕ) : Type 0 where
  pub process_there : process < PROCESSES
  pub fd_there : fd < DESCRIPTORS
  pub part_there : part < PARTS

-- the number of a key among all keys
abbrev pub number_of_key : ℕ → ℕ → ℕ → ℕ
number_of_key process fd part = key_number (record { process = process; fd = fd; part = part })

-- the marks are those of these entries
pub record AreMarksOf (m : Marks) (entries : List Entry) : Type 0 where
  pub begun : m.begun ≡ nat_lt 0 (length entries)
  pub opened : m.opened ≡ opened_fd entries
  pub answered : (piece : ℕ) → is_marked m.answered piece ≡ is_answered piece entries
  pub missed : (piece : ℕ) → is_marked m.missed piece ≡ has_missed piece entries
  pub cleared : (process fd part : ℕ) → IsKey process fd part →
      is_marked m.cleared (number_of_key process fd part) ≡ has_cleared process fd part entries

-- there is a mark for each piece and each key
pub record HasRoom (m : Marks) : Type 0 where
  pub answered : length m.answered ≡ PIECES
  pub missed : length m.missed ≡ PIECES
  pub cleared : length m.cleared ≡ MOST_KEYS

-- the marks after one more entry
abbrev pub noted : Entry → Marks → Marks
noted (Opened at file fd mode how) m = record m { begun = true; opened = option_or m.opened (Some fd) }
noted (Access at piece fd file index block range wrote way bytes) m =
    record m { begun = true; answered = slice_set m.answered piece true }
noted (Refused at (Some piece) reason) m = record m { begun = true; answered = slice_set m.answered piece true }
noted (Missed at piece found) m = record m { begun = true; missed = slice_set m.missed piece true }
noted (Cleared at owner fd part) m =
    record m { begun = true; cleared = slice_set m.cleared (number_of_key owner fd part) true }
noted entry m = record m { begun = true }

-- the key that the entry clears, if any, is one
abbrev pub HasKeyOf : Entry → Type 0
HasKeyOf (Cleared at owner fd part) = IsKey owner fd part
HasKeyOf entry = Unit {0}

-- there is a mark for each key, and none is set where none is said to be
pub record HasSpareMarks (some_set : Bool) (marks : List Bool) : Type 0 where
  pub all : length marks ≡ MOST_KEYS
  pub none : some_set ≡ false → (number : ℕ) → is_marked marks number ≡ false

-- the piece that the entry names, if any, is one that a call may have
abbrev pub HasPieceOf : Entry → Type 0
HasPieceOf (Access at piece fd file index block range wrote way bytes) = piece < PIECES
HasPieceOf (Missed at piece found) = piece < PIECES
HasPieceOf (Refused at (Some piece) reason) = piece < PIECES
HasPieceOf entry = Unit {0}
