-- What legal journals promise, in plain words: each is the contract of a function of src/promises.rt. They speak of an
-- entry of a journal that is legal and in order so far, from a sound volume and a script within the limits, and of the
-- store that the entries before it lead to.
use Rattle.std.specs.Prelude.{◌≡◌, ◌⊎◌, ℕ, ◌+◌, ◌*◌, ◌<◌, ◌≤◌, ◌↔◌, Bool, true, false, List, [], ◌∷◌, ◌++◌, take, length, count_by, slice_get, slice_range, Option, None, Some, IsSome}
use Rattle.std.specs.List.{flat_map, list_any}
use Rattle.bd_base.specs.declared.limits.TheConstants.{BLOCK_SIZE, FRAGMENTS}
use Rattle.bd_base.specs.declared.script.Call.{Call}
use Rattle.bd_base.specs.declared.script.Mode.TheVariants.{Rw}
use Rattle.bd_base.specs.declared.script.Script.{Script}
use Rattle.bd_base.specs.declared.volume.Volume.{Volume}
use Rattle.bd_base.specs.declared.journal.At.{At}
use Rattle.bd_base.specs.declared.journal.Found.{Found}
use Rattle.bd_base.specs.declared.journal.Found.TheVariants.{NoDirectory}
use Rattle.bd_base.specs.declared.journal.Way.{Way}
use Rattle.bd_base.specs.declared.journal.Way.TheVariants.{Direct, PastKnown, AfterMiss}
use Rattle.bd_base.specs.Bounds.{Bounds}
use Rattle.bd_entry.specs.declared.entry.Entry.{Entry}
use Rattle.bd_entry.specs.declared.entry.Entry.TheVariants.{Access, Attached, Detached, Missed, Refused}
use Rattle.bd_entry.specs.Calls.{at_of, bytes_for_piece, call_at, entries_of, fd_of_call, has_cleared, has_missed, is_answer_of, is_ended_by, is_finished, is_raw, pieces_of_call}
use Rattle.bd_entry.specs.Effects.{effect_of}
use Rattle.bd_entry.specs.History.{InOrderSoFar}
use Rattle.bd_entry.specs.Laws.{IsHistory, IsNextOf}
use Rattle.bd_entry.specs.Refusals.{descriptor_of}
use Rattle.bd_entry.specs.Rules.{place_in}
use Rattle.bd_entry.specs.RulesOfRights.{HasNoPlain, HasRights, Stands, part_of}
use Rattle.bd_entry.specs.Store.{Descriptor, Store, blocks_in, descriptor_at, file_in, has_part, has_plain, has_rights_on, limit_in, next_part, pairs_in_use, size_in, work_of}

-- ---- accesses

-- the bytes of a file: those of its blocks in order, cut at its size
abbrev pub content : Store → ℕ → List ℕ
content s file =
    take (size_in s file)
    (flat_map (λ block. slice_range s.bytes (BLOCK_SIZE * block) (BLOCK_SIZE * block + BLOCK_SIZE)) (blocks_in s file))

-- an access is on the block that the file has at that index, inside its limit, by an open descriptor of the file that
-- has a right on that part attached and whose mode allows it
pub record IsUnderRight (s : Store) (at : At) (fd file index : ℕ) (block : Option ℕ) (range : Bounds)
    (wrote : Bool) : Type 0 where
  pub descriptor : Descriptor
  pub is_open : descriptor_at s at.process fd ≡ Some descriptor
  pub of_file : descriptor.file ≡ file
  pub attached : has_part (part_of index) descriptor.attached ≡ true
  pub allowed : wrote ≡ true → descriptor.mode ≡ Rw
  pub current : ℕ
  pub block_is : block ≡ Some current
  pub of_index : slice_get (blocks_in s file) index ≡ Some current
  pub inside : range.hi ≤ limit_in s file index

-- each direct access is on the file's current block, under an attached right
abbrev pub DirectAccessIsUnderRight : Type 0
DirectAccessIsUnderRight =
    (v : Volume) (script : Script) (before : List Entry) (s : Store) (call : Call) (at : At) (piece fd file index : ℕ)
    (block : Option ℕ) (range : Bounds) (wrote : Bool) (bytes : List ℕ) →
    IsNextOf v script before s call (Access at piece fd file index block range wrote Direct bytes) →
    IsUnderRight s at fd file index block range wrote

-- each access that reads, by any way, gives just the bytes of the file's content in its range
abbrev pub ReadsGiveContent : Type 0
ReadsGiveContent =
    (v : Volume) (script : Script) (before : List Entry) (s : Store) (call : Call) (at : At) (piece fd file index : ℕ)
    (block : Option ℕ) (range : Bounds) (way : Way) (bytes : List ℕ) →
    IsNextOf v script before s call (Access at piece fd file index block range false way bytes) →
    bytes ≡ slice_range (content s file) (BLOCK_SIZE * index + range.lo) (BLOCK_SIZE * index + range.hi)

-- each access that writes, by any way, puts just the call's bytes into the file's content in its range
abbrev pub WritesGoToContent : Type 0
WritesGoToContent =
    (v : Volume) (script : Script) (before : List Entry) (s : Store) (call : Call) (at : At) (piece fd file index : ℕ)
    (block : Option ℕ) (range : Bounds) (way : Way) (bytes : List ℕ) →
    let e = Access at piece fd file index block range true way bytes in
    let start = BLOCK_SIZE * index + range.lo in
    let t = effect_of s (place_in s call at) e in
    IsNextOf v script before s call e →
    (bytes ≡ bytes_for_piece call (record { index = index; range = range }))
    × (slice_range (content t file) start (start + length bytes) ≡ bytes)

-- ---- fallbacks and misses

-- an access after a miss has its Missed before it
abbrev pub AfterMissHasMissed : Type 0
AfterMissHasMissed =
    (v : Volume) (script : Script) (before : List Entry) (s : Store) (call : Call) (at : At) (piece fd file index : ℕ)
    (block : Option ℕ) (range : Bounds) (wrote : Bool) (bytes : List ℕ) →
    IsNextOf v script before s call (Access at piece fd file index block range wrote AfterMiss bytes) →
    has_missed piece (entries_of at before) ≡ true

-- an access past the known size ends above it
abbrev pub PastKnownEndsAbove : Type 0
PastKnownEndsAbove =
    (v : Volume) (script : Script) (before : List Entry) (s : Store) (call : Call) (at : At) (piece fd file index : ℕ)
    (block : Option ℕ) (range : Bounds) (wrote : Bool) (bytes : List ℕ) →
    IsNextOf v script before s call (Access at piece fd file index block range wrote PastKnown bytes) →
    (d : Descriptor) × (descriptor_at s at.process fd ≡ Some d) × (d.known < BLOCK_SIZE * index + range.hi)

-- the right of a call's descriptor on the part of a piece does not stand: the descriptor is not open, or the right is
-- not attached or is cleared
abbrev pub NoRightStands : Option Descriptor → ℕ → Type 0
NoRightStands None part = Unit {0}
NoRightStands (Some d) part = ¬ Stands part d

-- a walk finds no directory entry only where the right is not attached or is cleared
abbrev pub NoDirectoryIsNoRight : Type 0
NoDirectoryIsNoRight =
    (v : Volume) (script : Script) (before : List Entry) (s : Store) (call : Call) (at : At) (number : ℕ) →
    IsNextOf v script before s call (Missed at number NoDirectory) →
    (piece : _) × (slice_get (pieces_of_call call) number ≡ Some piece)
    × NoRightStands (descriptor_of s (place_in s call at)) (part_of piece.index)

-- the walk of a piece of a read or a write, which lies below the known size, finds nothing else
abbrev pub PiecesMissNothingElse : Type 0
PiecesMissNothingElse =
    (v : Volume) (script : Script) (before : List Entry) (s : Store) (call : Call) (at : At) (number : ℕ)
    (found : Found) →
    IsNextOf v script before s call (Missed at number found) → is_raw call ≡ false → found ≡ NoDirectory

-- ---- rights

-- a file is still there, with each block that it had, and not smaller; and it is not open by the kernel alone
pub record IsKept (s : Store) (file : ℕ) (t : Store) : Type 0 where
  pub is_there : IsSome (file_in t file)
  pub blocks : (index block : ℕ) → slice_get (blocks_in s file) index ≡ Some block →
      slice_get (blocks_in t file) index ≡ Some block
  pub size : size_in s file ≤ size_in t file
  pub no_plain : has_plain t file ≡ false

-- while a right on a file is attached, no block of it is released, it neither shrinks nor goes, and no plain descriptor
-- of it is opened
abbrev pub RightsKeepFiles : Type 0
RightsKeepFiles =
    (v : Volume) (script : Script) (before : List Entry) (s : Store) (call : Call) (e : Entry) (file : ℕ) →
    IsNextOf v script before s call e → has_rights_on s file ≡ true →
    IsKept s file (effect_of s (place_in s call (at_of e)) e)

-- a right is detached only after its Cleared by the same call
abbrev pub DetachedIsCleared : Type 0
DetachedIsCleared =
    (v : Volume) (script : Script) (before : List Entry) (s : Store) (call : Call) (at : At) (owner fd part : ℕ) →
    IsNextOf v script before s call (Detached at owner fd part) →
    has_cleared owner fd part (entries_of at before) ≡ true

-- a part can be attached next exactly where an Attached of it keeps the rules of rights and of plain descriptors
abbrev pub NextPartIsLegal : Type 0
NextPartIsLegal =
    (s : Store) (call : Call) (at : At) (fd part : ℕ) (d : Descriptor)
    → descriptor_at s at.process fd ≡ Some d →
    let p = place_in s call at in
    (next_part s d ≡ Some part) ↔ (HasRights s p (Attached at fd part) × HasNoPlain s p (Attached at fd part))

-- at most as many pairs of a file and a part are in use as there are fragments
abbrev pub PairsAreFew : Type 0
PairsAreFew =
    (v : Volume) (script : Script) (journal : List Entry) (s : Store) → IsHistory v script journal s →
    length (pairs_in_use s) ≤ FRAGMENTS

-- ---- what a process knows

-- between calls, each descriptor of a process knows the size that it was told last
abbrev pub KnownIsTold : Type 0
KnownIsTold =
    (v : Volume) (script : Script) (journal : List Entry) (s : Store) (process fd : ℕ) (d : Descriptor) →
    IsHistory v script journal s → work_of s process ≡ [] → descriptor_at s process fd ≡ Some d
    → d.known ≡ d.told

-- the entry ends the running call of this process, and the call is one of this descriptor
pub record EndsCallOf (s : Store) (call : Call) (e : Entry) (process fd : ℕ) : Type 0 where
  pub of_process : process ≡ (at_of e).process
  pub of_descriptor : fd_of_call call (work_of s (at_of e).process ++ e ∷ []) ≡ Some fd
  pub ends : is_ended_by call (work_of s (at_of e).process ++ e ∷ []) ≡ true

-- what a process knows of a descriptor changes only as a call of that process and descriptor ends: it is then the size
-- that the descriptor was told
abbrev pub KnownChangesAtEnd : Type 0
KnownChangesAtEnd =
    (v : Volume) (script : Script) (before : List Entry) (s : Store) (call : Call) (e : Entry) (process fd : ℕ)
    (d new : Descriptor) →
    IsNextOf v script before s call e → descriptor_at s process fd ≡ Some d →
    descriptor_at (effect_of s (place_in s call (at_of e)) e) process fd ≡ Some new →
    (new.known ≡ d.known) ⊎ (EndsCallOf s call e process fd × (new.known ≡ new.told))

-- ---- whole journals

-- whether the entry refuses its whole call
abbrev pub is_whole_refusal : Entry → Bool
is_whole_refusal (Refused at None reason) = true
is_whole_refusal entry = false

-- each piece of a finished read or write has exactly one Access or one Refused, unless the call itself was refused
abbrev pub EachPieceOnce : Type 0
EachPieceOnce =
    (script : Script) (journal : List Entry) (at : At) (call : Call) (number : ℕ) →
    InOrderSoFar script journal → call_at script at ≡ Some call → is_raw call ≡ false →
    is_finished script journal at ≡ true →
    list_any is_whole_refusal (entries_of at journal) ≡ false → number < length (pieces_of_call call) →
    count_by (is_answer_of number) (entries_of at journal) ≡ 1

-- whether the entry is an Access or a Missed
abbrev pub is_access_or_miss : Entry → Bool
is_access_or_miss (Access at piece fd file index block range wrote way bytes) = true
is_access_or_miss (Missed at piece found) = true
is_access_or_miss entry = false

-- a finished raw command has one Access or one Missed, and nothing else
abbrev pub RawCommandOnce : Type 0
RawCommandOnce =
    (v : Volume) (script : Script) (journal : List Entry) (s : Store) (at : At) (call : Call) →
    IsHistory v script journal s → call_at script at ≡ Some call → is_raw call ≡ true →
    is_finished script journal at ≡ true →
    (e : Entry) × (entries_of at journal ≡ e ∷ []) × (is_access_or_miss e ≡ true)

-- the entries of a call all stand before those of a later call of its process
abbrev pub CallsAreInOrder : Type 0
CallsAreInOrder =
    (script : Script) (journal : List Entry) (i j : ℕ) (first second : Entry) →
    InOrderSoFar script journal → slice_get journal i ≡ Some first → slice_get journal j ≡ Some second →
    (at_of first).process ≡ (at_of second).process → (at_of first).call < (at_of second).call → i < j
