-- The rules of ways, descriptors and rights: 4 to 9. Each has a row for each kind of entry; `Unit` says that the rule
-- asks nothing of that kind.
use Rattle.std.specs.Prelude.{◌≡◌, ◌⊎◌, ℕ, ◌+◌, ◌*◌, ◌/◌, ◌<◌, ◌≤◌, Bool, true, false, [], length, Option, None, Some, IsSome}
use Rattle.bd_base.specs.declared.limits.TheConstants.{BLOCK_SIZE, PART_BLOCKS}
use Rattle.bd_base.specs.declared.script.Call.{Call}
use Rattle.bd_base.specs.declared.script.Call.TheVariants.{Truncate}
use Rattle.bd_base.specs.declared.script.How.{How}
use Rattle.bd_base.specs.declared.script.How.TheVariants as hows
use Rattle.bd_base.specs.declared.script.Mode.{Mode}
use Rattle.bd_base.specs.declared.script.Mode.TheVariants.{R, Rw}
use Rattle.bd_base.specs.declared.journal.Found.{Found}
use Rattle.bd_base.specs.declared.journal.Found.TheVariants.{NoDirectory, NoRight, NoEntry, Beyond}
use Rattle.bd_base.specs.declared.journal.Way.{Way}
use Rattle.bd_base.specs.declared.journal.Way.TheVariants.{Direct, Plain, PastKnown, AfterMiss}
use Rattle.bd_base.specs.Inodes.{free_id}
use Rattle.bd_base.specs.Pieces.{Piece}
use Rattle.bd_entry.specs.declared.entry.Entry.{Entry}
use Rattle.bd_entry.specs.declared.entry.Entry.TheVariants.{Access, Attached, Cleared, Closed, Created, Detached, Extended, Mapped, Missed, Opened, Refused, Released, SizeRead, Sized, Unlinked}
use Rattle.bd_entry.specs.Calls.{Place, does_write, has_cleared, has_missed, is_raw, named_fd, piece_of_call}
use Rattle.bd_entry.specs.Refusals.{denial, descriptor_of, file_of, goes_direct}
use Rattle.bd_entry.specs.Store.{Descriptor, Store, descriptor_at, has_fragment, has_part, has_plain, has_rights_on, limit_in, lowest_fd, lowest_unattached, next_part, size_in}

-- ---- rule 4: the way of a piece

-- by a direct descriptor, a piece that goes to the device has its access there, or after a miss; another has it past
-- the known size
abbrev pub IsWayOf : Bool → Bool → Way → Type 0
IsWayOf true missed Direct = Unit {0}
IsWayOf true missed AfterMiss = missed ≡ true
IsWayOf true missed PastKnown = ⊥
IsWayOf true missed Plain = ⊥
IsWayOf false missed Direct = ⊥
IsWayOf false missed AfterMiss = ⊥
IsWayOf false missed PastKnown = Unit {0}
IsWayOf false missed Plain = ⊥

-- the way of a piece by a plain descriptor, or by a direct one
abbrev pub IsWayBy : How → Bool → Bool → Way → Type 0
IsWayBy hows.Plain direct missed way = way ≡ Plain
IsWayBy hows.Direct direct missed way = IsWayOf direct missed way

-- the way of a piece of a read or a write; a descriptor that is not open is neither plain nor direct
abbrev pub IsWay : Option Descriptor → Piece → Bool → Way → Type 0
IsWay None piece missed Direct = Unit {0}
IsWay None piece missed AfterMiss = missed ≡ true
IsWay None piece missed PastKnown = ⊥
IsWay None piece missed Plain = ⊥
IsWay (Some d) piece missed way = IsWayBy d.how (goes_direct d piece) missed way

-- a piece whose walk missed went to the device
abbrev pub WentDirect : Option Descriptor → Piece → Type 0
WentDirect None piece = ⊥
WentDirect (Some d) piece = goes_direct d piece ≡ true

-- a piece that is refused goes to the kernel: it does not go to the device, or its walk missed
abbrev pub WentToKernel : Option Descriptor → Piece → Bool → Type 0
WentToKernel None piece missed = Unit {0}
WentToKernel (Some d) piece missed = (goes_direct d piece ≡ false) ⊎ (missed ≡ true)

-- a raw command has one thing to keep, another call another
abbrev pub RawOrNot : Bool → Type 0 → Type 0 → Type 0
RawOrNot true Raw Other = Raw
RawOrNot false Raw Other = Other

-- the piece is there, and this holds of it
abbrev pub ThePiece : Place → ℕ → (Piece → Type 0) → Type 0
ThePiece p number Holds = (piece : Piece) × (piece_of_call p.call number ≡ Some piece) × Holds piece

-- a raw command has a direct access or a miss alone; the pieces of a read or a write have their ways
abbrev pub HasRightWay : Store → Place → Entry → Type 0
HasRightWay s p (Opened at file fd mode how) = Unit {0}
HasRightWay s p (Created at file name perms) = Unit {0}
HasRightWay s p (Attached at fd part) = Unit {0}
HasRightWay s p (Mapped at fd count) = Unit {0}
HasRightWay s p (Cleared at owner fd part) = Unit {0}
HasRightWay s p (Detached at owner fd part) = Unit {0}
HasRightWay s p (Access at number fd file index block range wrote way bytes) =
    RawOrNot (is_raw p.call) (way ≡ Direct)
    (ThePiece p number (λ piece. IsWay (descriptor_of s p) piece (has_missed number p.before) way))
HasRightWay s p (Missed at number found) =
    RawOrNot (is_raw p.call) (Unit {0}) (ThePiece p number (WentDirect (descriptor_of s p)))
HasRightWay s p (Extended at file to block) = Unit {0}
HasRightWay s p (Released at file index block) = Unit {0}
HasRightWay s p (Sized at fd size) = Unit {0}
HasRightWay s p (SizeRead at fd size) = Unit {0}
HasRightWay s p (Closed at fd) = Unit {0}
HasRightWay s p (Unlinked at file) = Unit {0}
HasRightWay s p (Refused at None reason) = is_raw p.call ≡ false
HasRightWay s p (Refused at (Some number) reason) =
    ThePiece p number (λ piece. WentToKernel (descriptor_of s p) piece (has_missed number p.before))

-- ---- rule 5: the descriptor is open

-- the descriptor of a process is open
abbrev pub IsOpenAt : Store → ℕ → ℕ → Type 0
IsOpenAt s process fd = IsSome (descriptor_at s process fd)

-- the descriptor that the call names, if it names one, is open
abbrev pub NamedIsOpen : Store → ℕ → Option ℕ → Type 0
NamedIsOpen s process None = Unit {0}
NamedIsOpen s process (Some fd) = IsOpenAt s process fd

-- an open takes the lowest free descriptor; the descriptor of another entry is open
abbrev pub HasRightDescriptor : Store → Place → Entry → Type 0
HasRightDescriptor s p (Opened at file fd mode how) = lowest_fd s p.at.process ≡ Some fd
HasRightDescriptor s p (Created at file name perms) = Unit {0}
HasRightDescriptor s p (Attached at fd part) = IsOpenAt s p.at.process fd
HasRightDescriptor s p (Mapped at fd count) = IsOpenAt s p.at.process fd
HasRightDescriptor s p (Cleared at owner fd part) = IsOpenAt s owner fd
HasRightDescriptor s p (Detached at owner fd part) = IsOpenAt s owner fd
HasRightDescriptor s p (Access at piece fd file index block range wrote way bytes) = IsOpenAt s p.at.process fd
HasRightDescriptor s p (Missed at piece found) = NamedIsOpen s p.at.process (named_fd p.call)
HasRightDescriptor s p (Extended at file to block) = NamedIsOpen s p.at.process (named_fd p.call)
HasRightDescriptor s p (Released at file index block) = NamedIsOpen s p.at.process (named_fd p.call)
HasRightDescriptor s p (Sized at fd size) = IsOpenAt s p.at.process fd
HasRightDescriptor s p (SizeRead at fd size) = IsOpenAt s p.at.process fd
HasRightDescriptor s p (Closed at fd) = IsOpenAt s p.at.process fd
HasRightDescriptor s p (Unlinked at file) = Unit {0}
HasRightDescriptor s p (Refused at piece reason) = Unit {0}

-- ---- rule 6: the file is the call's

-- the descriptor is open, and this holds of it
abbrev pub TheDescriptor : Option Descriptor → (Descriptor → Type 0) → Type 0
TheDescriptor slot Holds = (d : Descriptor) × (slot ≡ Some d) × Holds d

-- the named descriptor is of the call's file
abbrev pub IsOfFile : Store → Place → ℕ → ℕ → Type 0
IsOfFile s p owner fd = TheDescriptor (descriptor_at s owner fd) (λ d. file_of s p ≡ Some d.file)

-- the file is the one of the name or of the descriptor; a new file has the lowest free id; rights are taken from the
-- call's file
abbrev pub HasRightFile : Store → Place → Entry → Type 0
HasRightFile s p (Opened at file fd mode how) = file_of s p ≡ Some file
HasRightFile s p (Created at file name perms) = free_id s.files ≡ Some file
HasRightFile s p (Attached at fd part) = Unit {0}
HasRightFile s p (Mapped at fd count) = Unit {0}
HasRightFile s p (Cleared at owner fd part) = IsOfFile s p owner fd
HasRightFile s p (Detached at owner fd part) = IsOfFile s p owner fd
HasRightFile s p (Access at piece fd file index block range wrote way bytes) =
    TheDescriptor (descriptor_at s p.at.process fd) (λ d. d.file ≡ file)
HasRightFile s p (Missed at piece found) = Unit {0}
HasRightFile s p (Extended at file to block) = file_of s p ≡ Some file
HasRightFile s p (Released at file index block) = file_of s p ≡ Some file
HasRightFile s p (Sized at fd size) = Unit {0}
HasRightFile s p (SizeRead at fd size) = Unit {0}
HasRightFile s p (Closed at fd) = Unit {0}
HasRightFile s p (Unlinked at file) = file_of s p ≡ Some file
HasRightFile s p (Refused at piece reason) = Unit {0}

-- ---- rule 7: the policy and the mode

-- a write needs a descriptor that may write
abbrev pub MayWrite : Bool → Mode → Type 0
MayWrite true mode = mode ≡ Rw
MayWrite false mode = Unit {0}

-- the policy allows an open; a descriptor that may only read writes nothing
abbrev pub IsAllowed : Store → Place → Entry → Type 0
IsAllowed s p (Opened at file fd mode how) = denial s p.at.process mode file ≡ None
IsAllowed s p (Created at file name perms) = Unit {0}
IsAllowed s p (Attached at fd part) = Unit {0}
IsAllowed s p (Mapped at fd count) = Unit {0}
IsAllowed s p (Cleared at owner fd part) = Unit {0}
IsAllowed s p (Detached at owner fd part) = Unit {0}
IsAllowed s p (Access at piece fd file index block range wrote way bytes) =
    TheDescriptor (descriptor_at s p.at.process fd) (λ d. MayWrite wrote d.mode)
IsAllowed s p (Missed at piece found) = Unit {0}
IsAllowed s p (Extended at file to block) = Unit {0}
IsAllowed s p (Released at file index block) = Unit {0}
IsAllowed s p (Sized at fd size) = Unit {0}
IsAllowed s p (SizeRead at fd size) = Unit {0}
IsAllowed s p (Closed at fd) = Unit {0}
IsAllowed s p (Unlinked at file) = Unit {0}
IsAllowed s p (Refused at piece reason) = Unit {0}

-- ---- rule 8: the attached rights allow the entry

-- the part of a block of a file
abbrev pub part_of : ℕ → ℕ
part_of index = index / PART_BLOCKS

-- a right that stands: it is attached and not cleared
pub record Stands (part : ℕ) (d : Descriptor) : Type 0 where
  pub attached : has_part part d.attached ≡ true
  pub not_cleared : has_part part d.cleared ≡ false

-- a direct access needs a right on the part of its block
abbrev pub HasRightToAccess : Option Descriptor → Way → ℕ → Type 0
HasRightToAccess slot Direct index = TheDescriptor slot (λ d. has_part (part_of index) d.attached ≡ true)
HasRightToAccess slot Plain index = Unit {0}
HasRightToAccess slot PastKnown index = Unit {0}
HasRightToAccess slot AfterMiss index = Unit {0}

-- what the walk of a piece may have found by an open descriptor, whose right on that part is attached but for
-- no-directory
abbrev pub MayFind : Store → Bool → Descriptor → Piece → Found → Type 0
MayFind s writes d piece NoDirectory = ¬ Stands (part_of piece.index) d
MayFind s writes d piece NoRight =
    (has_part (part_of piece.index) d.attached ≡ true) × (writes ≡ true) × (d.mode ≡ R)
MayFind s writes d piece NoEntry =
    (has_part (part_of piece.index) d.attached ≡ true) × MayWrite writes d.mode
    × (d.known ≤ BLOCK_SIZE * piece.index)
MayFind s writes d piece (Beyond limit) =
    (has_part (part_of piece.index) d.attached ≡ true) × MayWrite writes d.mode × (1 ≤ limit)
    × (limit < piece.range.hi)
    × (limit ≤ limit_in s d.file piece.index) × (d.known ≤ BLOCK_SIZE * piece.index + limit)

-- what the walk of a piece may have found: where the descriptor is not open there is no right to find
abbrev pub MayMiss : Store → Bool → Option Descriptor → Found → Piece → Type 0
MayMiss s writes None NoDirectory piece = Unit {0}
MayMiss s writes None NoRight piece = ⊥
MayMiss s writes None NoEntry piece = ⊥
MayMiss s writes None (Beyond limit) piece = ⊥
MayMiss s writes (Some d) found piece = MayFind s writes d piece found

-- a truncation clears rights only where it lowers the size
abbrev pub LowersWhereTruncates : Store → Call → ℕ → Type 0
LowersWhereTruncates s (Truncate fd size) file = size < size_in s file
LowersWhereTruncates s call file = Unit {0}

-- no right on the file is attached
abbrev pub HasNoRights : Store → ℕ → Type 0
HasNoRights s file = has_rights_on s file ≡ false

-- a plain open needs a file without rights
abbrev pub NoRightsWherePlain : Store → How → ℕ → Type 0
NoRightsWherePlain s hows.Plain file = HasNoRights s file
NoRightsWherePlain s hows.Direct file = Unit {0}

-- the attached rights allow the entry
abbrev pub HasRights : Store → Place → Entry → Type 0
HasRights s p (Opened at file fd mode how) = NoRightsWherePlain s how file
HasRights s p (Created at file name perms) = Unit {0}
HasRights s p (Attached at fd part) =
    TheDescriptor (descriptor_at s p.at.process fd)
    (λ d. (lowest_unattached s d ≡ Some part) × (has_fragment s d.file part ≡ true))
HasRights s p (Mapped at fd count) =
    TheDescriptor (descriptor_at s p.at.process fd) (λ d. (count ≡ length d.attached) × (next_part s d ≡ None))
HasRights s p (Cleared at owner fd part) =
    TheDescriptor (descriptor_at s owner fd) (λ d. Stands part d × LowersWhereTruncates s p.call d.file)
HasRights s p (Detached at owner fd part) =
    TheDescriptor (descriptor_at s owner fd)
    (λ d. (has_part part d.attached ≡ true) × (has_cleared owner fd part p.before ≡ true))
HasRights s p (Access at piece fd file index block range wrote way bytes) =
    HasRightToAccess (descriptor_at s p.at.process fd) way index
HasRights s p (Missed at piece found) = ThePiece p piece (MayMiss s (does_write p.call) (descriptor_of s p) found)
HasRights s p (Extended at file to block) = Unit {0}
HasRights s p (Released at file index block) = HasNoRights s file
HasRights s p (Sized at fd size) =
    TheDescriptor (descriptor_at s p.at.process fd) (λ d. size < size_in s d.file → HasNoRights s d.file)
HasRights s p (SizeRead at fd size) = Unit {0}
HasRights s p (Closed at fd) = TheDescriptor (descriptor_at s p.at.process fd) (λ d. d.attached ≡ [])
HasRights s p (Unlinked at file) = HasNoRights s file
HasRights s p (Refused at piece reason) = Unit {0}

-- ---- rule 9: no right beside a plain descriptor

-- no right is given on a file of which a plain descriptor is open
abbrev pub HasNoPlain : Store → Place → Entry → Type 0
HasNoPlain s p (Opened at file fd mode how) = Unit {0}
HasNoPlain s p (Created at file name perms) = Unit {0}
HasNoPlain s p (Attached at fd part) =
    TheDescriptor (descriptor_at s p.at.process fd) (λ d. has_plain s d.file ≡ false)
HasNoPlain s p (Mapped at fd count) = Unit {0}
HasNoPlain s p (Cleared at owner fd part) = Unit {0}
HasNoPlain s p (Detached at owner fd part) = Unit {0}
HasNoPlain s p (Access at piece fd file index block range wrote way bytes) = Unit {0}
HasNoPlain s p (Missed at piece found) = Unit {0}
HasNoPlain s p (Extended at file to block) = Unit {0}
HasNoPlain s p (Released at file index block) = Unit {0}
HasNoPlain s p (Sized at fd size) = Unit {0}
HasNoPlain s p (SizeRead at fd size) = Unit {0}
HasNoPlain s p (Closed at fd) = Unit {0}
HasNoPlain s p (Unlinked at file) = Unit {0}
HasNoPlain s p (Refused at piece reason) = Unit {0}
