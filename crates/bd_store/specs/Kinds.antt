-- Kinds of entries.
use Rattle.std.specs.Prelude.{◌≡◌, ℕ, Bool, true, false, Option, Some, List, slice_get}
use Rattle.bd_base.specs.declared.script.Call.{Call}
use Rattle.bd_base.specs.declared.volume.Inode.{Inode}
use Rattle.bd_base.specs.Inodes.{blocks_of_slot, inode_at}
use Rattle.bd_entry.specs.declared.entry.Entry.{Entry}
use Rattle.bd_entry.specs.declared.entry.Entry.TheVariants.{Access, Cleared, Detached}
use Rattle.bd_entry.specs.Calls.{piece_of_call}

-- whether the entry tells that a right is cleared or detached
abbrev pub is_of_revocation : Entry → Bool
is_of_revocation (Cleared at owner fd part) = true
is_of_revocation (Detached at owner fd part) = true
is_of_revocation entry = false

-- an access that wrote is to a piece of its call
abbrev pub IsPieceWhereWrote : Call → Entry → Type 0
IsPieceWhereWrote call (Access at piece fd file index block range true way bytes) =
    (number : ℕ) × (piece_of_call call number ≡ Some (record { index = index; range = range }))
IsPieceWhereWrote call entry = Unit {0}

-- the block is the one that the file has at that index, if any
abbrev pub IsBlockAt : List (Option Inode) → ℕ → ℕ → Option ℕ → Type 0
IsBlockAt files file index block = slice_get (blocks_of_slot (inode_at files file)) index ≡ block

-- the block of an access is the one that its file has at that index, if any
abbrev pub IsBlockOf : List (Option Inode) → Entry → Type 0
IsBlockOf files (Access at piece fd file index block range wrote way bytes) = IsBlockAt files file index block
IsBlockOf files entry = Unit {0}
