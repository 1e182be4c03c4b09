-- The range of each number of an entry.
use Rattle.std.specs.Prelude.{ℕ, ◌<◌, ◌≤◌, Option, None, Some, List, length, All}
use Rattle.bd_base.specs.Bounds.{Bounds}
use Rattle.bd_base.specs.Bytes.{AreBytes}
use Rattle.bd_base.specs.Names.{IsName}
use Rattle.bd_base.specs.declared.journal.At.{At}
use Rattle.bd_base.specs.declared.journal.Found.{Found}
use Rattle.bd_base.specs.declared.journal.Found.TheVariants.{Beyond}
use Rattle.bd_base.specs.declared.limits.TheConstants.{BLOCKS, BLOCK_SIZE, CALLS, DESCRIPTORS, FILES, FILE_SIZE, LAST_INDEX, PARTS, PIECES, POLICY_RULES, PROCESSES}
use Rattle.bd_base.specs.declared.reason.Reason.{Reason}
use Rattle.bd_base.specs.declared.reason.Reason.TheVariants.{Denied, OpenBy, KernelOpen}
use Rattle.bd_entry.specs.Calls.{at_of}
use Rattle.bd_entry.specs.declared.entry.Entry.{Entry}
use Rattle.bd_entry.specs.declared.entry.Entry.TheVariants.{Opened, Created, Attached, Mapped, Cleared, Detached, Access, Missed, Extended, Released, Sized, SizeRead, Closed, Unlinked, Refused}
use Rattle.bd_entry.specs.declared.limits.TheConstants.{ASKED_PERMS}

-- a process and the number of a call
pub record IsAt (at : At) : Type 0 where
  pub process : at.process < PROCESSES
  pub call : at.call < CALLS

-- a number below this one, or none
abbrev pub IsOptional : ℕ → Option ℕ → Type 0
IsOptional below None = Unit {0}
IsOptional below (Some n) = n < below

-- a range of a block: some bytes
abbrev pub IsRange : Bounds → Type 0
IsRange r = (r.lo < r.hi) × (r.hi ≤ BLOCK_SIZE)

-- bytes of one block at most
abbrev pub IsBytes : List ℕ → Type 0
IsBytes bytes = AreBytes bytes × (length bytes ≤ BLOCK_SIZE)

-- a walk finds at least one byte of a block, and at most all
abbrev pub IsFound : Found → Type 0
IsFound (Beyond bytes) = (1 ≤ bytes) × (bytes ≤ BLOCK_SIZE)
IsFound found = Unit {0}

-- the rule, the process and the descriptor of a reason
abbrev pub IsReason : Reason → Type 0
IsReason (Denied rule) = (1 ≤ rule) × (rule ≤ POLICY_RULES)
IsReason (OpenBy process fd) = (process < PROCESSES) × (fd < DESCRIPTORS)
IsReason (KernelOpen process) = process < PROCESSES
IsReason reason = Unit {0}

-- what an entry tells after its call is in range
abbrev pub IsInRange : Entry → Type 0
IsInRange (Opened at file fd mode how) = (file < FILES) × (fd < DESCRIPTORS)
IsInRange (Created at file name perms) = (file < FILES) × IsName name × (perms < ASKED_PERMS)
IsInRange (Attached at fd part) = (fd < DESCRIPTORS) × (part < PARTS)
IsInRange (Mapped at fd count) = (fd < DESCRIPTORS) × (count ≤ PARTS)
IsInRange (Cleared at owner fd part) = (owner < PROCESSES) × (fd < DESCRIPTORS) × (part < PARTS)
IsInRange (Detached at owner fd part) = (owner < PROCESSES) × (fd < DESCRIPTORS) × (part < PARTS)
IsInRange (Access at piece fd file index block range wrote way bytes) =
    (piece < PIECES) × (fd < DESCRIPTORS) × (file < FILES) × (index ≤ LAST_INDEX) × IsOptional BLOCKS block
    × IsRange range × IsBytes bytes
IsInRange (Missed at piece found) = (piece < PIECES) × IsFound found
IsInRange (Extended at file to block) = (file < FILES) × (to ≤ FILE_SIZE) × IsOptional BLOCKS block
IsInRange (Released at file index block) = (file < FILES) × (index ≤ LAST_INDEX) × (block < BLOCKS)
IsInRange (Sized at fd size) = (fd < DESCRIPTORS) × (size ≤ FILE_SIZE)
IsInRange (SizeRead at fd size) = (fd < DESCRIPTORS) × (size ≤ FILE_SIZE)
IsInRange (Closed at fd) = fd < DESCRIPTORS
IsInRange (Unlinked at file) = file < FILES
IsInRange (Refused at piece reason) = IsOptional PIECES piece × IsReason reason

-- each number of the entry is in its range, and its name is a name
pub record IsEntry (e : Entry) : Type 0 where
  pub at : IsAt (at_of e)
  pub fields : IsInRange e

-- all are entries
abbrev pub AreEntries : List Entry → Type 0
AreEntries entries = All IsEntry entries
