-- The rules of blocks, sizes, bytes and refusals: 10 to 13. Each has a row for each kind of entry; `Unit` says that the
-- rule asks nothing of that kind.
use Rattle.std.specs.Prelude.{◌≡◌, ◌≢◌, ℕ, ◌+◌, ◌*◌, ◌<◌, ◌≤◌, min, Bool, true, false, List, [], length, slice_get, slice_range, Option, None, Some}
use Rattle.std.specs.Option.{option_and_then}
use Rattle.bd_base.specs.declared.limits.TheConstants.{BLOCK_SIZE, FILE_SIZE}
use Rattle.bd_base.specs.declared.reason.Reason.{Reason}
use Rattle.bd_base.specs.declared.reason.Reason.TheVariants.{NoSpace, Extents}
use Rattle.bd_base.specs.declared.script.Call.{Call}
use Rattle.bd_base.specs.declared.script.Call.TheVariants.{Truncate}
use Rattle.bd_base.specs.declared.volume.Inode.{Inode}
use Rattle.bd_base.specs.declared.journal.Way.{Way}
use Rattle.bd_base.specs.declared.journal.Way.TheVariants.{Direct}
use Rattle.bd_base.specs.Allocation.{last_block}
use Rattle.bd_base.specs.Bounds.{Bounds}
use Rattle.bd_base.specs.Files.{blocks_for}
use Rattle.bd_base.specs.Inodes.{growth_block}
use Rattle.bd_entry.specs.declared.entry.Entry.{Entry}
use Rattle.bd_entry.specs.declared.entry.Entry.TheVariants.{Access, Attached, Cleared, Closed, Created, Detached, Extended, Mapped, Missed, Opened, Refused, Released, SizeRead, Sized, Unlinked}
use Rattle.bd_entry.specs.Calls.{Place, bytes_for_piece}
use Rattle.bd_entry.specs.Refusals.{first_refusal, goal_of, growth_reason, next_size, piece_refusal, refusal_of}
use Rattle.bd_entry.specs.Store.{Store, blocks_in, descriptor_at, file_in, has_open, limit_in, size_in}
use Rattle.bd_entry.specs.RulesOfRights.{TheDescriptor}

-- ---- rule 10: the block

-- the file is there, and this holds of it
abbrev pub TheFile : Option Inode → (Inode → Type 0) → Type 0
TheFile slot Holds = (f : Inode) × (slot ≡ Some f) × Holds f

-- the index and the block are those of the file's last block
pub record IsLastBlock (f : Inode) (index block : ℕ) : Type 0 where
  pub index_is : length f.blocks ≡ index + 1
  pub block_is : last_block f.blocks ≡ Some block

-- an access is on the block that the file has at that index, a growth takes the one that allocation takes, a release
-- the last
abbrev pub HasRightBlock : Store → Place → Entry → Type 0
HasRightBlock s p (Opened at file fd mode how) = Unit {0}
HasRightBlock s p (Created at file name perms) = Unit {0}
HasRightBlock s p (Attached at fd part) = Unit {0}
HasRightBlock s p (Mapped at fd count) = Unit {0}
HasRightBlock s p (Cleared at owner fd part) = Unit {0}
HasRightBlock s p (Detached at owner fd part) = Unit {0}
HasRightBlock s p (Access at piece fd file index block range wrote way bytes) =
    slice_get (blocks_in s file) index ≡ block
HasRightBlock s p (Missed at piece found) = Unit {0}
HasRightBlock s p (Extended at file to block) =
    TheFile (file_in s file) (λ f. growth_block s.total s.files f ≡ block)
HasRightBlock s p (Released at file index block) = TheFile (file_in s file) (λ f. IsLastBlock f index block)
HasRightBlock s p (Sized at fd size) = Unit {0}
HasRightBlock s p (SizeRead at fd size) = Unit {0}
HasRightBlock s p (Closed at fd) = Unit {0}
HasRightBlock s p (Unlinked at file) = Unit {0}
HasRightBlock s p (Refused at piece reason) = Unit {0}

-- ---- rule 11: limits and sizes

-- a direct access and a kernel's write end within the limit of their block; a kernel's read gets fewer bytes past it
abbrev pub EndsWithin : Way → Bool → ℕ → ℕ → Type 0
EndsWithin Direct wrote hi limit = hi ≤ limit
EndsWithin way true hi limit = hi ≤ limit
EndsWithin way false hi limit = Unit {0}

-- the size of a truncation is the one that it asks for
abbrev pub AsksForSize : Call → ℕ → Type 0
AsksForSize (Truncate fd size) told = told ≡ size
AsksForSize call told = ⊥

-- a truncation releases only blocks that its size does not need
abbrev pub NeedsNoLastBlock : Call → Inode → Type 0
NeedsNoLastBlock (Truncate fd size) f = blocks_for size < length f.blocks
NeedsNoLastBlock call f = Unit {0}

-- the entry is within the limit, and its size is the right one
abbrev pub IsWithinLimit : Store → Place → Entry → Type 0
IsWithinLimit s p (Opened at file fd mode how) = Unit {0}
IsWithinLimit s p (Created at file name perms) = Unit {0}
IsWithinLimit s p (Attached at fd part) = Unit {0}
IsWithinLimit s p (Mapped at fd count) = Unit {0}
IsWithinLimit s p (Cleared at owner fd part) = Unit {0}
IsWithinLimit s p (Detached at owner fd part) = Unit {0}
IsWithinLimit s p (Access at piece fd file index block range wrote way bytes) =
    EndsWithin way wrote range.hi (limit_in s file index)
IsWithinLimit s p (Missed at piece found) = Unit {0}
IsWithinLimit s p (Extended at file to block) = option_and_then (next_size (size_in s file)) (goal_of s p) ≡ Some to
IsWithinLimit s p (Released at file index block) = TheFile (file_in s file) (NeedsNoLastBlock p.call)
IsWithinLimit s p (Sized at fd size) =
    TheDescriptor (descriptor_at s p.at.process fd)
    (λ d. AsksForSize p.call size × (length (blocks_in s d.file) ≡ blocks_for size))
IsWithinLimit s p (SizeRead at fd size) =
    TheDescriptor (descriptor_at s p.at.process fd) (λ d. size ≡ size_in s d.file)
IsWithinLimit s p (Closed at fd) = Unit {0}
IsWithinLimit s p (Unlinked at file) = (blocks_in s file ≡ []) × (has_open s file ≡ false)
IsWithinLimit s p (Refused at piece reason) = Unit {0}

-- ---- rule 12: the bytes

-- the bytes of a block from lo to the lesser of hi and the limit, of an absent block none
abbrev pub bytes_within : List ℕ → Option ℕ → Bounds → ℕ → List ℕ
bytes_within bytes None range limit = []
bytes_within bytes (Some block) range limit =
    slice_range bytes (BLOCK_SIZE * block + range.lo) (BLOCK_SIZE * block + min range.hi limit)

-- what was read is what stands there, and what was written is what the call writes by that piece
abbrev pub IsContent : Store → Place → ℕ → ℕ → Option ℕ → Bounds → Bool → List ℕ → Type 0
IsContent s p file index block range true bytes =
    bytes ≡ bytes_for_piece p.call (record { index = index; range = range })
IsContent s p file index block range false bytes = bytes ≡ bytes_within s.bytes block range (limit_in s file index)

-- the bytes of an access are the right ones
abbrev pub HasRightBytes : Store → Place → Entry → Type 0
HasRightBytes s p (Opened at file fd mode how) = Unit {0}
HasRightBytes s p (Created at file name perms) = Unit {0}
HasRightBytes s p (Attached at fd part) = Unit {0}
HasRightBytes s p (Mapped at fd count) = Unit {0}
HasRightBytes s p (Cleared at owner fd part) = Unit {0}
HasRightBytes s p (Detached at owner fd part) = Unit {0}
HasRightBytes s p (Access at piece fd file index block range wrote way bytes) =
    IsContent s p file index block range wrote bytes
HasRightBytes s p (Missed at piece found) = Unit {0}
HasRightBytes s p (Extended at file to block) = Unit {0}
HasRightBytes s p (Released at file index block) = Unit {0}
HasRightBytes s p (Sized at fd size) = Unit {0}
HasRightBytes s p (SizeRead at fd size) = Unit {0}
HasRightBytes s p (Closed at fd) = Unit {0}
HasRightBytes s p (Unlinked at file) = Unit {0}
HasRightBytes s p (Refused at piece reason) = Unit {0}

-- ---- rule 13: refusals

-- no refusal of the call holds as it begins
abbrev pub MayBegin : Store → Place → Type 0
MayBegin s p = p.before ≡ [] → first_refusal s p.at.process p.call ≡ None

-- the reason is one that comes in the middle of a call
abbrev pub IsOfGrowth : Reason → Type 0
IsOfGrowth NoSpace = Unit {0}
IsOfGrowth Extents = Unit {0}
IsOfGrowth reason = ⊥

-- a whole call is refused by the first reason that holds, after its first entry by one of growth alone
pub record IsRefusedFor (s : Store) (p : Place) (reason : Reason) : Type 0 where
  pub first : refusal_of s p ≡ Some reason
  pub of_growth : p.before ≢ [] → IsOfGrowth reason

-- a piece is refused by the first reason of its growth that holds, where none of the whole call does
pub record IsPieceRefusedFor (s : Store) (p : Place) (number : ℕ) (reason : Reason) : Type 0 where
  pub not_whole : first_refusal s p.at.process p.call ≡ None
  pub first : piece_refusal s p number ≡ Some reason

-- a file may grow towards this goal
pub record MayGrow (s : Store) (file goal : ℕ) : Type 0 where
  pub within : goal ≤ FILE_SIZE
  pub room : growth_reason s file goal ≡ None

-- the file may grow towards the goal of the call, where it has one
abbrev pub MayGrowToGoal : Store → ℕ → Option ℕ → Type 0
MayGrowToGoal s file None = Unit {0}
MayGrowToGoal s file (Some goal) = MayGrow s file goal

-- a refusal has the right reason, and none was passed over
abbrev pub HasRightReason : Store → Place → Entry → Type 0
HasRightReason s p (Opened at file fd mode how) = MayBegin s p
HasRightReason s p (Created at file name perms) = MayBegin s p
HasRightReason s p (Attached at fd part) = MayBegin s p
HasRightReason s p (Mapped at fd count) = MayBegin s p
HasRightReason s p (Cleared at owner fd part) = MayBegin s p
HasRightReason s p (Detached at owner fd part) = MayBegin s p
HasRightReason s p (Access at piece fd file index block range wrote way bytes) = MayBegin s p
HasRightReason s p (Missed at piece found) = MayBegin s p
HasRightReason s p (Extended at file to block) = MayBegin s p × MayGrowToGoal s file (goal_of s p)
HasRightReason s p (Released at file index block) = MayBegin s p
HasRightReason s p (Sized at fd size) = MayBegin s p
HasRightReason s p (SizeRead at fd size) = MayBegin s p
HasRightReason s p (Closed at fd) = MayBegin s p
HasRightReason s p (Unlinked at file) = MayBegin s p
HasRightReason s p (Refused at None reason) = IsRefusedFor s p reason
HasRightReason s p (Refused at (Some piece) reason) = IsPieceRefusedFor s p piece reason
