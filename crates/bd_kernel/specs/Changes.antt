-- Tables of descriptors, and what changes in them.
use Rattle.std.specs.Prelude.{◌≡◌, ℕ, ◌<◌, ◌≤◌, Bool, true, false, Option, None, Some, List, [], length, slice_index_or, slice_set, IsSome}
use Rattle.std.specs.Option.{option_map}
use Rattle.std.specs.List.{flat_map, list_any}
use Rattle.bd_base.specs.declared.limits.TheConstants.{FILES, PARTS, PROCESSES}
use Rattle.bd_entry.specs.declared.entry.Entry.{Entry}
use Rattle.bd_entry.specs.declared.entry.Entry.TheVariants.{Attached, Cleared, Closed, Detached, Opened}
use Rattle.bd_entry.specs.Effects.{attach, clear, detach, new_descriptor, with_known_size}
use Rattle.bd_entry.specs.Store.{Descriptor, distinct_pairs, has_part, in_slot, pairs_of_slot, same_pair}
use Rattle.bd_kernel.specs.declared.descriptor.Change.{Change}
use Rattle.bd_kernel.specs.declared.descriptor.Change.TheVariants.{Attach, Detach, Clear, Tell, Know}

-- the descriptors of each process
abbrev pub Rows : Type 0
Rows = List (List (Option Descriptor))

-- the descriptor after a change
abbrev pub changed : Change → Descriptor → Descriptor
changed (Attach part) d = attach part d
changed (Detach part) d = detach part d
changed (Clear part) d = clear part d
changed (Tell size) d = record d { told = size }
changed Know d = with_known_size d

-- the descriptor of a process with this number
abbrev pub slot_at : Rows → ℕ → ℕ → Option Descriptor
slot_at rows process fd = in_slot (slice_index_or rows process []) fd

-- the rows with this in the slot of a descriptor
abbrev pub rows_with_slot : Rows → ℕ → ℕ → Option Descriptor → Rows
rows_with_slot rows process fd slot = slice_set rows process (slice_set (slice_index_or rows process []) fd slot)

-- the rows with this descriptor changed so, where it is open
abbrev pub changed_rows : Rows → ℕ → ℕ → (Descriptor → Descriptor) → Rows
changed_rows rows process fd change = rows_with_slot rows process fd (option_map change (slot_at rows process fd))

-- whether a slot has a descriptor with a right on the part
abbrev pub has_right : ℕ → Option Descriptor → Bool
has_right part None = false
has_right part (Some d) = has_part part d.attached

-- the rows after an entry's own change
abbrev pub rows_after : Rows → Entry → Rows
rows_after rows (Opened at file fd mode how) =
    rows_with_slot rows at.process fd (new_descriptor (Opened at file fd mode how))
rows_after rows (Attached at fd part) = changed_rows rows at.process fd (attach part)
rows_after rows (Cleared at owner fd part) = changed_rows rows owner fd (clear part)
rows_after rows (Detached at owner fd part) = changed_rows rows owner fd (detach part)
rows_after rows (Closed at fd) = rows_with_slot rows at.process fd None
rows_after rows entry = rows

-- the slot is that of a process, and no right stands in it
pub record IsWithoutRights (rows : Rows) (process fd : ℕ) : Type 0 where
  pub there : process < length rows
  pub none : pairs_of_slot (slot_at rows process fd) ≡ []

-- a descriptor is there, and has a right on the part
pub record HasRightThere (rows : Rows) (process fd part : ℕ) : Type 0 where
  pub is_open : IsSome (slot_at rows process fd)
  pub attached : has_right part (slot_at rows process fd) ≡ true

-- what an entry's own change asks of the rows
abbrev pub CanFollow : Rows → Entry → Type 0
CanFollow rows (Opened at file fd mode how) = IsWithoutRights rows at.process fd
CanFollow rows (Attached at fd part) = IsSome (slot_at rows at.process fd)
CanFollow rows (Detached at owner fd part) = HasRightThere rows owner fd part
CanFollow rows (Closed at fd) = IsWithoutRights rows at.process fd
CanFollow rows entry = Unit {0}

-- the pairs of a file and a part that some right stands on
abbrev pub pairs_of_rows : Rows → List (ℕ × ℕ)
pairs_of_rows rows = distinct_pairs (flat_map (flat_map pairs_of_slot) rows)

-- whether a slot has a right on the pair
abbrev pub uses_pair : ℕ × ℕ → Option Descriptor → Bool
uses_pair pair slot = list_any (same_pair pair) (pairs_of_slot slot)

-- a file and a part that there may be
pub record IsPair (pair : ℕ × ℕ) : Type 0 where
  pub file_there : pair.0 < FILES
  pub part_there : pair.1 < PARTS

-- there are at most as many rows as processes, and so many pairs have a right
pub record AreCounted (pairs : ℕ) (rows : Rows) : Type 0 where
  pub few : length rows ≤ PROCESSES
  pub counted : pairs ≡ length (pairs_of_rows rows)
  pub there : (pair : ℕ × ℕ) → list_any (same_pair pair) (pairs_of_rows rows) ≡ true → IsPair pair
