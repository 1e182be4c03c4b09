-- What holds of the abstract machine at every moment, and the laws of its turns.
use Rattle.std.specs.Prelude.{◌≡◌, ◌≢◌, ◌⊎◌, ℕ, ◌<◌, ◌≤◌, ◌/◌, nat_eq, Bool, true, false, ◌||◌, List, [], length, count_by, slice_get, IsSome, IsTrue, All, Option, None, Some}
use Rattle.std.specs.List.{list_any}
use Rattle.std.specs.FinMap as fin
use Rattle.bd_base.specs.declared.journal.Found.{Found}
use Rattle.bd_base.specs.declared.journal.Found.TheVariants.{NoDirectory}
use Rattle.bd_base.specs.declared.key.Cell.{Cell}
use Rattle.bd_base.specs.declared.key.Key.{Key}
use Rattle.bd_base.specs.declared.limits.TheConstants.{PART_BLOCKS}
use Rattle.bd_base.specs.declared.script.Call.{Call}
use Rattle.bd_base.specs.declared.script.Call.TheVariants.{Enter, Read, Truncate}
use Rattle.bd_base.specs.Keys.{Pair, same_key}
use Rattle.bd_base.specs.Scripts.{IsWithinLimits}
use Rattle.bd_entry.specs.declared.entry.Entry.{Entry}
use Rattle.bd_entry.specs.declared.entry.Entry.TheVariants as entries
use Rattle.bd_entry.specs.Actions.{has_begun, is_for_device, keys_on}
use Rattle.bd_entry.specs.Calls.{Place, calls_of, entries_of, has_missed, is_answered, is_ended_by, is_finished, opened_fd, pieces_of_call}
use Rattle.bd_entry.specs.NextEntries.{stays_allowed}
use Rattle.bd_entry.specs.Promises.{is_whole_refusal}
use Rattle.bd_entry.specs.Refusals.{file_of, first_refusal}
use Rattle.bd_entry.specs.RulesOfRights.{HasRights, TheDescriptor}
use Rattle.bd_entry.specs.Store.{Descriptor, Store, Valid, blocks_in, descriptor_at, has_part, limit_in, size_in}
use Rattle.bd_file_table.specs.Fragments.{Cells}
use Rattle.bd_lines.specs.declared.lines.Line.{Line}
use Rattle.bd_lines.specs.declared.lines.TheConstants.{LINES}
use Rattle.bd_lines.specs.Lines.{LineList, line_at}
use Rattle.bd_tables.specs.declared.request.Request.{Request}
use Rattle.bd_tables.specs.declared.state.Right.{Right}
use Rattle.bd_tables.specs.declared.state.RightState.{RightState}
use Rattle.bd_tables.specs.declared.state.RightState.TheVariants as states
use Rattle.bd_tables.specs.declared.state.Walk.TheVariants as walks
use Rattle.bd_tables.specs.Sound.{IsOpen, IsSound, OnRight}
use Rattle.bd_tables.specs.State.{TableState, lookup, pair_under, walk_at}
use Rattle.bd_turns.specs.Engines.{request_of_piece}
use Rattle.bd_turns.specs.Processors.{is_posted, running_of}
use Rattle.bd_turns.specs.State.{Completed, InHand, Phase, Looking, Reading, Filling, Moving, Missing, Retiring, Completing, Posted, Progress, State, does_hold, has_ended, outstanding, progress_of, running}
use Rattle.bd_turns.specs.Turns.{holds_throughout, may_write, process_count}

-- ---- rights and the tables

-- the right of a descriptor on a part is attached in the store
abbrev pub is_attached : Store → Key → Option Descriptor → Bool
is_attached s key None = false
is_attached s key (Some d) = has_part key.part d.attached

-- whether the right is revoked: its directory entry is cleared
abbrev pub is_revoked : RightState → Bool
is_revoked states.On = false
is_revoked states.Cleared = true
is_revoked (states.Drained swept) = true

-- a right of the tables is the one of the descriptor in the store: attached, of its file, in its mode, and cleared
-- there exactly where it is revoked
pub record IsRightOf (key : Key) (right : Right) (d : Descriptor) : Type 0 where
  pub file : right.file ≡ d.file
  pub write : right.write ≡ may_write d.mode
  pub attached : has_part key.part d.attached ≡ true
  pub cleared : has_part key.part d.cleared ≡ is_revoked right.state

-- the rights of the tables are just the attached ones of the store
pub record AreRightsOf (m : State) : Type 0 where
  pub told : (key : Key) (right : Right) → fin.get m.tables.rights key ≡ Some right →
      (d : Descriptor) × (descriptor_at m.store key.process key.fd ≡ Some d) × IsRightOf key right d
  pub all : (key : Key) (d : Descriptor) → descriptor_at m.store key.process key.fd ≡ Some d →
      has_part key.part d.attached ≡ true → IsSome (fin.get m.tables.rights key)

-- the cell of a block of a file, None where it has no such block
abbrev pub cell_of_block : Store → ℕ → ℕ → Option Cell
cell_of_block s file index = cell_from (limit_in s file index) (slice_get (blocks_in s file) index)
  where
    cell_from : ℕ → Option ℕ → Option Cell
    cell_from limit None = None
    cell_from limit (Some block) = Some (record { block = block; limit = limit })

-- the lookup of each index of an attached key's part is the file's block of that index with its limit
abbrev pub AreLookupsOf : State → Type 0
AreLookupsOf m =
    (key : Key) (right : Right) (index : ℕ) → fin.get m.tables.rights key ≡ Some right →
    index / PART_BLOCKS ≡ key.part → lookup m.tables key index ≡ cell_of_block m.store right.file index

-- the pair of each attached key is in use, with a cell for each block of a part
abbrev pub AreWhole : State → Type 0
AreWhole m =
    (key : Key) (right : Right) → fin.get m.tables.rights key ≡ Some right →
    (cells : Cells) × (fin.get m.tables.cells (pair_under key right) ≡ Some cells) × (length cells ≡ PART_BLOCKS)

-- each line of the cache is about a block of the part of its key
abbrev pub AreLinesOfParts : LineList → Type 0
AreLinesOfParts lines =
    (c : ℕ) (line : Line) → line_at lines c ≡ Some line → line.index / PART_BLOCKS ≡ line.key.part

-- a drained key has a mark for each line of the cache
abbrev pub AreMarked : State → Type 0
AreMarked m =
    (key : Key) (right : Right) (swept : List Bool) → fin.get m.tables.rights key ≡ Some right →
    right.state ≡ states.Drained swept → length swept ≡ LINES

-- the pairs in use are those that some attached key is about
abbrev pub AreUsed : State → Type 0
AreUsed m =
    (pair : Pair) → fin.contains_key m.tables.cells pair ≡ true →
    (key : Key) × (right : Right) × (fin.get m.tables.rights key ≡ Some right) × (pair_under key right ≡ pair)

-- ---- engines

-- where the walk of an engine is that goes on so with this request
abbrev pub IsWalkAt : Phase → Request → TableState → ℕ → Type 0
IsWalkAt Looking request tables process = walk_at tables.walks process ≡ walks.Entered request
IsWalkAt Reading request tables process = walk_at tables.walks process ≡ walks.Entered request
IsWalkAt Filling request tables process =
    (completion : _) × (walk_at tables.walks process ≡ walks.Translated request completion)
IsWalkAt Moving request tables process =
    (completion : _) × (walk_at tables.walks process ≡ walks.Translated request completion)
IsWalkAt Missing request tables process =
    (found : Found) × (walk_at tables.walks process ≡ walks.Refused request found)
IsWalkAt Retiring request tables process =
    ((completion : _) × (walk_at tables.walks process ≡ walks.Translated request completion))
    ⊎ ((found : Found) × (walk_at tables.walks process ≡ walks.Refused request found))
IsWalkAt Completing request tables process = walk_at tables.walks process ≡ walks.Idle

-- an engine with a command in its hand walks for the request of that command
pub record IsWalkFor (m : State) (p : Place) (hand : InHand) : Type 0 where
  pub request : Request
  pub of_piece : request_of_piece p hand.piece ≡ Some request
  pub walk : IsWalkAt hand.phase request m.tables p.at.process

-- what a refused walk found may be noted: the entry would keep the rule of rights
abbrev pub MayNote : State → Type 0
MayNote m =
    (p : Place) (hand : InHand) (request : Request) (found : Found) →
    running m p.at.process ≡ Some p → (progress_of m p.at.process).hand ≡ Some hand → hand.phase ≡ Missing →
    walk_at m.tables.walks p.at.process ≡ walks.Refused request found →
    HasRights m.store p (entries.Missed p.at hand.piece found)

-- an engine that was refused although it found its right is in a key that is attached and not drained
abbrev pub AreInOpenKeys : State → Type 0
AreInOpenKeys m =
    (process : ℕ) (request : Request) (found : Found) →
    walk_at m.tables.walks process ≡ walks.Refused request found → found ≢ NoDirectory →
    OnRight (λ right. IsOpen right.state) (fin.get m.tables.rights request.key)

-- an engine without a command is in no key
abbrev pub IsIdleWithout : State → Type 0
IsIdleWithout m =
    (process : ℕ) → (progress_of m process).hand ≡ None → walk_at m.tables.walks process ≡ walks.Idle

-- ---- revocation

-- whether the entry clears the right of this key
abbrev pub is_clear_at : Key → Entry → Bool
is_clear_at key (entries.Cleared at owner fd part) =
    same_key key (record { process = owner; fd = fd; part = part })
is_clear_at key entry = false

-- a posted key is Cleared, or Drained at the front alone
abbrev pub IsPostedState : ℕ → RightState → Type 0
IsPostedState number states.On = ⊥
IsPostedState number states.Cleared = Unit {0}
IsPostedState number (states.Drained swept) = number ≡ 0

-- the posted keys differ; each is one that its running call cleared, on the file that its process holds; only the front
-- one may be drained
pub record ArePosted (m : State) : Type 0 where
  pub differ : (i j : ℕ) (first second : Posted) → slice_get m.posted i ≡ Some first →
      slice_get m.posted j ≡ Some second → first.key ≡ second.key → i ≡ j
  pub by_running : (number : ℕ) (post : Posted) → slice_get m.posted number ≡ Some post →
      (p : Place) × (running m post.by.process ≡ Some p) × (p.at ≡ post.by)
      × IsTrue (list_any (is_clear_at post.key) p.before)
  pub state_of : (number : ℕ) (post : Posted) → slice_get m.posted number ≡ Some post →
      (right : Right) × (fin.get m.tables.rights post.key ≡ Some right) × IsPostedState number right.state
  pub drained : (key : Key) (right : Right) (swept : List Bool) → fin.get m.tables.rights key ≡ Some right →
      right.state ≡ states.Drained swept →
      (post : Posted) × (slice_get m.posted 0 ≡ Some post) × (post.key ≡ key)
  pub held : (number : ℕ) (post : Posted) (right : Right) → slice_get m.posted number ≡ Some post →
      fin.get m.tables.rights post.key ≡ Some right → (progress_of m post.by.process).held ≡ Some right.file

-- a right that is revoked is one that the running call of the process that holds its file cleared
pub record IsBeingRevoked (m : State) (key : Key) (right : Right) : Type 0 where
  pub holder : ℕ
  pub held : (progress_of m holder).held ≡ Some right.file
  pub place : Place
  pub running_is : running m holder ≡ Some place
  pub cleared : list_any (is_clear_at key) place.before ≡ true

-- each right that is revoked is being revoked by the holder of its file
abbrev pub AreRevokedByHolders : State → Type 0
AreRevokedByHolders m =
    (key : Key) (right : Right) → fin.get m.tables.rights key ≡ Some right → is_revoked right.state ≡ true →
    IsBeingRevoked m key right

-- of the rights that are revoked on one file at most one is not posted: the one that its call cleared last
abbrev pub IsOneUnposted : State → Type 0
IsOneUnposted m =
    (first second : Key) (a b : Right) → fin.get m.tables.rights first ≡ Some a →
    fin.get m.tables.rights second ≡ Some b → a.file ≡ b.file → is_revoked a.state ≡ true →
    is_revoked b.state ≡ true → is_posted m.posted first ≡ false → is_posted m.posted second ≡ false →
    first ≡ second

-- ---- holds

-- no file is held by two processes
abbrev pub IsHeldOnce : State → Type 0
IsHeldOnce m =
    (file first second : ℕ) → does_hold file (progress_of m first) ≡ true →
    does_hold file (progress_of m second) ≡ true → first ≡ second

-- a process that holds a file has a running call, whose file that is
abbrev pub AreHoldsOfCalls : State → Type 0
AreHoldsOfCalls m =
    (process file : ℕ) → (progress_of m process).held ≡ Some file →
    (p : Place) × (running m process ≡ Some p) × (file_of m.store p ≡ Some file)

-- a call that holds its file throughout does so once it has an entry
abbrev pub AreBegunHolding : State → Type 0
AreBegunHolding m =
    (process : ℕ) (p : Place) → running m process ≡ Some p → holds_throughout p.call ≡ true → p.before ≢ [] →
    (file : ℕ) × (file_of m.store p ≡ Some file) × ((progress_of m process).held ≡ Some file)

-- whether the call is an open
abbrev pub is_open : Call → Bool
is_open (Enter name mode how) = true
is_open call = false

-- the descriptor that an open has opened is of the file of the open
abbrev pub AreOpensOfFiles : State → Type 0
AreOpensOfFiles m =
    (process fd : ℕ) (p : Place) → running m process ≡ Some p → is_open p.call ≡ true → opened_fd p.before ≡ Some fd →
    TheDescriptor (descriptor_at m.store process fd) (λ d. file_of m.store p ≡ Some d.file)

-- ---- commands

-- how a command of this piece stands in the journal: it is answered or missed exactly from the turn of its engine on
-- that says so
abbrev pub is_told : Place → ℕ → Bool
is_told p piece = is_answered piece p.before || has_missed piece p.before

-- whether the engine has said in the journal what became of the command in its hand
abbrev pub has_told : Phase → Bool
has_told Looking = false
has_told Reading = false
has_told Filling = false
has_told Moving = false
has_told Missing = false
has_told Retiring = true
has_told Completing = true

-- the commands of a process are those of different pieces of its running call; the journal tells of one exactly from
-- its engine's turn on that says so
pub record AreCommands (p : Place) (progress : Progress) : Type 0 where
  pub differ : (piece : ℕ) → count_by (nat_eq piece) (outstanding progress) ≤ 1
  pub pieces : All (λ piece. piece < length (pieces_of_call p.call)) (outstanding progress)
  pub submitted : All (λ piece. is_told p piece ≡ false) progress.submitted
  pub in_hand : (hand : InHand) → progress.hand ≡ Some hand → is_told p hand.piece ≡ has_told hand.phase
  pub completed : All (λ (done : Completed).
      (is_told p done.piece ≡ true) × (done.missed ≡ has_missed done.piece p.before)) progress.completed

-- the commands of each process are those of its running call; a process without one has none
pub record AreCommandsOfCalls (m : State) : Type 0 where
  pub of_running : (process : ℕ) (p : Place) → running m process ≡ Some p → AreCommands p (progress_of m process)
  pub none : (process : ℕ) → running m process ≡ None → outstanding (progress_of m process) ≡ []

-- the commands of a read or a write that is not finished are of pieces that go to the device
abbrev pub AreForDevice : State → Type 0
AreForDevice m =
    (process : ℕ) (p : Place) → running m process ≡ Some p → is_ended_by p.call p.before ≡ false →
    All (λ piece. is_for_device m.store p piece ≡ true) (outstanding (progress_of m process))

-- the calls that have ended are finished in the journal, which has no entry of a call after the running one
pub record AreInTurn (m : State) : Type 0 where
  pub finished : (process call : ℕ) → call < (progress_of m process).ended →
      is_finished m.script m.journal (record { process = process; call = call }) ≡ true
  pub later : (process call : ℕ) → (progress_of m process).ended < call →
      entries_of (record { process = process; call = call }) m.journal ≡ []

-- the running call has not ended
abbrev pub AreUnended : State → Type 0
AreUnended m =
    (process : ℕ) (p : Place) → running m process ≡ Some p →
    has_ended p.call p.before (progress_of m process) ≡ false

-- no running call was refused as a whole: that ends it, as nothing is outstanding then
abbrev pub AreUnrefused : State → Type 0
AreUnrefused m =
    (process : ℕ) (p : Place) → running m process ≡ Some p → list_any is_whole_refusal p.before ≡ false

-- a running call that cleared a right holds the file of that descriptor, which stays open meanwhile
abbrev pub AreClearsHeld : State → Type 0
AreClearsHeld m =
    (process : ℕ) (p : Place) (key : Key) → running m process ≡ Some p →
    list_any (is_clear_at key) p.before ≡ true →
    (d : Descriptor) × (descriptor_at m.store key.process key.fd ≡ Some d)
    × ((progress_of m process).held ≡ Some d.file)

-- ---- calls that have begun

-- whether the refusals of the call stay away once it has begun
abbrev pub keeps_allowed : Call → Bool
keeps_allowed (Read fd off len) = true
keeps_allowed call = stays_allowed call

-- no refusal of a call that has begun came to hold
abbrev pub AreAllowed : State → Type 0
AreAllowed m =
    (process : ℕ) (p : Place) → running m process ≡ Some p → keeps_allowed p.call ≡ true →
    has_begun (running_of m p) ≡ true → first_refusal m.store process p.call ≡ None

-- whether the entry releases a block
abbrev pub is_release : Entry → Bool
is_release (entries.Released at file index block) = true
is_release entry = false

-- whether the entry clears a right
abbrev pub is_clear : Entry → Bool
is_clear (entries.Cleared at owner fd part) = true
is_clear entry = false

-- no right is attached on the file of a truncation that has released a block; while one that has cleared a right has
-- released none, its size is below that of the file
pub record IsTruncating (s : Store) (p : Place) (size : ℕ) : Type 0 where
  pub without_rights : list_any is_release p.before ≡ true → (file : ℕ) → file_of s p ≡ Some file →
      keys_on s file ≡ []
  pub lowers : list_any is_clear p.before ≡ true → list_any is_release p.before ≡ false → (file : ℕ) →
      file_of s p ≡ Some file → size < size_in s file

-- each running truncation is so
abbrev pub AreTruncating : State → Type 0
AreTruncating m =
    (process : ℕ) (p : Place) (fd size : ℕ) → running m process ≡ Some p → p.call ≡ Truncate fd size →
    IsTruncating m.store p size

-- ---- all of it

-- each process has its progress and its walk, and no more calls have ended than there are
pub record HasProcesses (m : State) : Type 0 where
  pub progress : length m.processes ≡ process_count m
  pub walks : length m.tables.walks ≡ process_count m
  pub ended : (process : ℕ) → (progress_of m process).ended ≤ length (calls_of m.script process)

-- the script, the processes and the store. Entries are legal, and a legal entry keeps a store valid; a call ends once
-- its entries end it and none of its commands is left, and only then comes the next. A call that is refused as a whole
-- ends at once; one that cleared a right holds its file to the end, so nobody else closes that descriptor meanwhile.
pub record AreCallsSound (m : State) : Type 0 where
  pub limits : IsWithinLimits m.script
  pub processes : HasProcesses m
  pub valid : Valid m.store
  pub in_turn : AreInTurn m
  pub commands : AreCommandsOfCalls m
  pub for_device : AreForDevice m
  pub unended : AreUnended m
  pub unrefused : AreUnrefused m
  pub clears_held : AreClearsHeld m

-- the tables and the engines. An Attach, a Clear and a DetachDone change the store and the tables alike; an Attach
-- hands in the cells of the file's blocks, a growth fills or raises them in the same turn, and no block of a file goes
-- while a right on it is attached. The effects of the tables keep them sound: who is granted has a right that is not
-- drained, what is held or cached is an entry, and after its sweep no line names a drained key, since a fill needs an
-- engine that is granted. What a walk missed for stays so until it is noted, since a right that is not there when a
-- piece enters does not come while its process's call runs, and the known size stays too.
pub record AreTablesSound (m : State) : Type 0 where
  pub rights : AreRightsOf m
  pub lookups : AreLookupsOf m
  pub whole : AreWhole m
  pub used : AreUsed m
  pub lines : AreLinesOfParts m.tables.lines
  pub marked : AreMarked m
  pub tables : IsSound m.tables
  pub hands : (process : ℕ) (p : Place) (hand : InHand) → running m process ≡ Some p →
      (progress_of m process).hand ≡ Some hand → IsWalkFor m p hand
  pub idle : IsIdleWithout m
  pub notable : MayNote m
  pub open_keys : AreInOpenKeys m

-- revocation and holds. A call that would hold a file waits while another holds it; only a call that holds the file
-- clears rights on it, each is posted in the next turn of that call, and the invalidation engine works at the front
-- alone. So what a call found of its file as it began stays.
pub record AreHoldsSound (m : State) : Type 0 where
  pub posted : ArePosted m
  pub revoked : AreRevokedByHolders m
  pub one_unposted : IsOneUnposted m
  pub held_once : IsHeldOnce m
  pub holds : AreHoldsOfCalls m
  pub begun_holding : AreBegunHolding m
  pub opened : AreOpensOfFiles m
  pub allowed : AreAllowed m
  pub truncating : AreTruncating m

-- what holds of a state at every moment
pub record Sound (m : State) : Type 0 where
  pub calls : AreCallsSound m
  pub tables_are : AreTablesSound m
  pub holds_are : AreHoldsSound m
