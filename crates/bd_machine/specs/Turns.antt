-- What a turn of a machine does to its parts.
use Rattle.std.specs.Prelude.{◌≡◌, ◌≢◌, ◌⊎◌, ℕ, ◌+◌, ◌<◌, nat_eq, cond, Bool, true, false, ◌&&◌, List, [], ◌∷◌, ◌++◌, length, slice_get, slice_index_or, slice_set, All, IsSome, Option, None, Some}
use Rattle.bd_base.specs.declared.journal.At.{At}
use Rattle.bd_base.specs.declared.key.Cell.{Cell}
use Rattle.bd_base.specs.declared.limits.TheConstants.{CALLS}
use Rattle.bd_base.specs.declared.script.Call.{Call}
use Rattle.bd_base.specs.declared.script.Call.TheVariants.{Enter, Create, Read, Write, Size}
use Rattle.bd_base.specs.declared.script.How.TheVariants as hows
use Rattle.bd_base.specs.declared.script.Process.{Process as ScriptProcess}
use Rattle.bd_base.specs.declared.script.Script.{Script}
use Rattle.bd_base.specs.Scripts.{IsCall}
use Rattle.bd_entry.specs.declared.act.Act.{Act}
use Rattle.bd_entry.specs.declared.act.Act.TheVariants as acts
use Rattle.bd_entry.specs.declared.entry.Entry.{Entry}
use Rattle.bd_entry.specs.declared.entry.Entry.TheVariants.{Attached}
use Rattle.bd_entry.specs.Actions.{entry_of_act, next_act}
use Rattle.bd_entry.specs.Calls.{Place, fd_of, fd_of_call, is_ended_by}
use Rattle.bd_entry.specs.Effects.{after_call, after_telling, effect_of, tells_size}
use Rattle.bd_entry.specs.NextEntries.{IsLegalAt}
use Rattle.bd_entry.specs.Refusals.{file_of}
use Rattle.bd_entry.specs.Store.{Descriptor, Store, Valid, descriptor_at}
use Rattle.bd_kernel.specs.declared.blocker.Blocker.{Blocker}
use Rattle.bd_kernel.specs.Blockers.{blocker_in}
use Rattle.bd_kernel.specs.Changes.{slot_at}
use Rattle.bd_kernel.specs.Disks.{DiskState, IsDiskOf}
use Rattle.bd_kernel.specs.Holders.{holder_in}
use Rattle.bd_kernel.specs.Turns.{AreEntriesOf, IsSameCall, Takes}
use Rattle.bd_kernel.specs.Turns as kernel
use Rattle.bd_machine.specs.declared.parts.Parts.{Parts}
use Rattle.bd_machine.specs.declared.process.Process.{Process}
use Rattle.bd_machine.specs.Logs.{AppendsEvent}
use Rattle.bd_machine.specs.Shows.{Reached, Shows}
use Rattle.bd_tables.specs.declared.sides.Tables as sides
use Rattle.bd_tables.specs.Answers.{AllStay}
use Rattle.bd_tables.specs.Seen.{EnginesStay}
use Rattle.bd_turns.specs.declared.turn.Row.{Row}
use Rattle.bd_turns.specs.declared.turn.Turn.{Turn}
use Rattle.bd_turns.specs.declared.turn.Wait.{Wait}
use Rattle.bd_turns.specs.Course.{event_of}
use Rattle.bd_turns.specs.Processors.{Adds, next_action, running_of}
use Rattle.bd_turns.specs.State.{State, holder_of, running}
use Rattle.bd_turns.specs.Turns.{Outcome, Waiting, after_turn, answer_of, cells_of_part, holds_after, outcome_of, turns_per_call}

-- ---- the calls that are built

-- whether the machine runs calls of this form
abbrev pub is_built : Call → Bool
is_built (Enter name mode hows.Direct) = true
is_built (Create name perms) = true
is_built (Read fd off len) = true
is_built (Write fd off bytes) = true
is_built (Size fd) = true
is_built call = false

-- all calls of the script are of such forms
abbrev pub AreBuilt : Script → Type 0
AreBuilt script = All (λ (p : ScriptProcess). All (λ call. is_built call ≡ true) p.calls) script.processes

-- ---- turns

-- the parts show a state that a machine can come to, as it runs such a script
pub record IsAt {T M P : Type 0} (K : sides.Ghosts T P) (script : Script) (x : Parts T M P) (m : State) : Type 0 where
  pub shows : Shows K script x m
  pub reached : Reached m
  pub built : AreBuilt script

-- the turn of an actor with this answer was taken, and its event told
pub record TookTurn {T M P : Type 0} (K : sides.Ghosts T P) (script : Script) (old new : Parts T M P) (m : State)
    (actor : ℕ) (turn : Turn) : Type 0 where
  pub shows : Shows K script new (after_turn m actor)
  pub answer : turn ≡ answer_of m actor
  pub events : new.log.events ≡ old.log.events ++ event_of old.log.turns actor turn
  pub turns : new.log.turns ≡ old.log.turns

-- the parts show the same state, and nothing was told
pub record StaysAt {T M P : Type 0} (K : sides.Ghosts T P) (script : Script) (old new : Parts T M P) (m : State)
    : Type 0 where
  pub shows : Shows K script new m
  pub events : new.log.events ≡ old.log.events
  pub turns : new.log.turns ≡ old.log.turns

-- this is the next action of the running call of the process
pub record IsNextAct (m : State) (process : ℕ) (act : Act) : Type 0 where
  pub place : Place
  pub running_is : running m process ≡ Some place
  pub next : next_act m.store (holder_of m) (running_of m place) ≡ Some act

-- this is what the running call of the process needs before it does anything else, if it does
pub record IsNextBlocker (m : State) (process : ℕ) (blocker : Option Blocker) : Type 0 where
  pub place : Place
  pub running_is : running m process ≡ Some place
  pub blocker_is : blocker ≡ blocker_in (next_act m.store (holder_of m) (running_of m place))

-- what an outcome waits for, if it is a wait
abbrev pub wait_in : Outcome → Option Wait
wait_in (Waiting wait) = Some wait
wait_in outcome = None

-- what the turn of the actor waits for, if it waits
abbrev pub wait_of : State → ℕ → Option Wait
wait_of m actor = wait_in (outcome_of m actor)

-- whether the action adds an entry
abbrev pub adds_entry : Act → Bool
adds_entry (acts.Busy file holder) = false
adds_entry (acts.Revoke keys) = false
adds_entry (acts.Submit piece) = false
adds_entry acts.Poll = false
adds_entry act = true

-- ---- entries

-- an entry, at its place in a store
pub record AddedAt : Type 0 where
  pub store : Store
  pub place : Place
  pub entry : Entry

-- the entry is the legal one that the action adds, in the store of this disk, by the call at this place
pub record IsEntryOf (disk : DiskState) (call : Call) (at : At) (fd : Option ℕ) (act : Act) (g : AddedAt) :
    Type 0 where
  pub disk_is : IsDiskOf disk g.store
  pub valid : Valid g.store
  pub within : IsCall call
  pub call_is : g.place.call ≡ call
  pub at_is : g.place.at ≡ at
  pub fd_is : fd ≡ fd_of g.place
  pub added : entry_of_act g.store g.place act ≡ Some g.entry
  pub legal : IsLegalAt g.store g.place g.entry

-- the store after an entry that follows these of its process's running call, but for the entry's own change
abbrev pub after_noting : Store → Call → ℕ → List Entry → Entry → Store
after_noting s call process before e =
    let entries = before ++ e ∷ [] in
    let fd = fd_of_call call entries in
    after_call (is_ended_by call entries) (after_telling (tells_size e) s process fd) process fd entries

-- ---- changes of the parts

-- the process of this number
abbrev pub process_in : {T M P : Type 0} → Parts T M P → ℕ → Option (Process P)
process_in x process = slice_get x.processes.items process

-- the running call of the process was begun
pub record HasBegun {T M P : Type 0} (x : Parts T M P) (process : ℕ) : Type 0 where
  pub it : Process P
  pub there : process_in x process ≡ Some it
  pub begun : IsSome it.call

-- it was not, if there is one
abbrev pub IsUnbegun : {T M P : Type 0} → Parts T M P → ℕ → Type 0
IsUnbegun {T} {M} {P} x process = (y : Process P) → process_in x process ≡ Some y → y.call ≡ None

-- a completion of the process has come that was not polled
abbrev pub HasCompletion : {T M P : Type 0} → Parts T M P → ℕ → Type 0
HasCompletion {T} {M} {P} x process = (y : Process P) → process_in x process ≡ Some y → y.queue.completed ≢ []

-- all processes but this one stay
pub record OthersStay {T M P : Type 0} (old new : Parts T M P) (process : ℕ) : Type 0 where
  pub count : length new.processes.items ≡ length old.processes.items
  pub others : (other : ℕ) → other ≢ process → process_in new other ≡ process_in old other

-- the running call of the process took note of the entry, and the process was told what the entry tells
pub record NotesEntry {T M P : Type 0} (old new : Parts T M P) (process : ℕ) (e : Entry) : Type 0 where
  pub tables : new.tables ≡ old.tables
  pub held : new.disk.held ≡ old.disk.held
  pub log : new.log ≡ old.log
  pub others : OthersStay old new process
  pub mine : (y : Process P) (c : kernel.Progress) → process_in old process ≡ Some y → y.call ≡ Some c →
      (d : kernel.Progress) × (process_in new process ≡ Some (record y { call = Some d })) × IsSameCall c d
      × (d.outstanding ≡ c.outstanding) × Takes c e d
  pub disk : (y : Process P) (c : kernel.Progress) (before : List Entry) (s : Store) →
      process_in old process ≡ Some y → y.call ≡ Some c → AreEntriesOf c before →
      is_ended_by c.call before ≡ false →
      IsDiskOf old.disk s → IsDiskOf new.disk (after_noting s c.call process before e)

-- no pass of the tables is lent or taken back, and all others of them stay
pub record PassesStay {T P : Type 0} (K : sides.Ghosts T P) (old new : T) : Type 0 where
  pub lent : AllStay K.is_of old new
  pub engines : EnginesStay K.lies K.apart old new

-- one more call can end, and one more turn be counted
pub record AreFew {T M P : Type 0} (x : Parts T M P) (process : ℕ) : Type 0 where
  pub calls : (y : Process P) → process_in x process ≡ Some y → y.ended < CALLS
  pub turns : (y : Process P) → process_in x process ≡ Some y → y.used < turns_per_call

-- the process after an effective turn in the name of its running call, which this is kept of
abbrev pub counted : {P : Type 0} → Process P → kernel.Progress → Process P
counted y c =
    cond (c.finished && nat_eq (length c.outstanding) 0) (record y { ended = y.ended + 1; used = 0; call = None })
    (record y { used = y.used + 1 })

-- the files that processes hold after that turn
abbrev pub held_after : List (Option ℕ) → ℕ → kernel.Progress → List (Option ℕ)
held_after held process c = cond (c.finished && nat_eq (length c.outstanding) 0) (slice_set held process None) held

-- an effective turn in the name of the running call of the process was counted
pub record CountsTurn {T M P : Type 0} (old new : Parts T M P) (process : ℕ) : Type 0 where
  pub tables : new.tables ≡ old.tables
  pub log : new.log ≡ old.log
  pub others : OthersStay old new process
  pub mine : (y : Process P) (c : kernel.Progress) → process_in old process ≡ Some y → y.call ≡ Some c →
      process_in new process ≡ Some (counted y c)
  pub disk : (y : Process P) (c : kernel.Progress) → process_in old process ≡ Some y → y.call ≡ Some c →
      new.disk ≡ record old.disk { held = held_after old.disk.held process c }

-- an effective turn of this row of the actor, in the name of the running call of the process, was counted and told
pub record EndsTurn {T M P : Type 0} (old new : Parts T M P) (process actor : ℕ) (row : Row) : Type 0 where
  pub tables : new.tables ≡ old.tables
  pub log : AppendsEvent old.log (record { turn = old.log.turns; actor = actor; row = row }) new.log
  pub others : OthersStay old new process
  pub mine : (y : Process P) (c : kernel.Progress) → process_in old process ≡ Some y → y.call ≡ Some c →
      process_in new process ≡ Some (counted y c)
  pub disk : (y : Process P) (c : kernel.Progress) → process_in old process ≡ Some y → y.call ≡ Some c →
      new.disk ≡ record old.disk { held = held_after old.disk.held process c }

-- the parts with this as the file that the process holds
abbrev pub with_hold : {T M P : Type 0} → Parts T M P → ℕ → Option ℕ → Parts T M P
with_hold x process file = record x { disk = record x.disk { held = slice_set x.disk.held process file } }

-- the file, if any, is held by nobody, or by the process itself
abbrev pub MayHold : List (Option ℕ) → ℕ → Option ℕ → Type 0
MayHold held process None = Unit {0}
MayHold held process (Some file) =
    (holder_in held file ≡ None) ⊎ (slice_index_or held process None ≡ Some file)

-- ---- what the steps of a processor's turn ask for

-- a script, and the state that the parts of a machine that runs it show
pub record Sight : Type 0 where
  pub script : Script
  pub state : State

-- the process has a running call
abbrev pub IsRunning : State → ℕ → Type 0
IsRunning m process = IsSome (running m process)

-- the answer is the file that the process holds after a turn of this row, unless its call ends, in each store of the
-- disk: that of the call, or none
abbrev pub IsHeldAfter : {T M P : Type 0} → Parts T M P → Call → ℕ → Row → Option ℕ → Type 0
IsHeldAfter {T} {M} {P} x call process row answer =
    (y : Process P) (c : kernel.Progress) (s : Store) (at : At) (before : List Entry) →
    process_in x process ≡ Some y → y.call ≡ Some c → IsDiskOf x.disk s → c.process ≡ at.process →
    AreEntriesOf c before →
    answer ≡ cond (holds_after call row) (file_of s (record { call = c.call; at = at; before = before })) None

-- the descriptor by which the entry of this process attaches a right is open
abbrev pub AttachesByOpen : DiskState → ℕ → Entry → Type 0
AttachesByOpen disk process (Attached at fd part) = IsSome (slot_at disk.rows process fd)
AttachesByOpen disk process entry = Unit {0}

-- these are the cells of the part that the entry attaches a right on, none of another entry
abbrev pub AreCellsFor : DiskState → ℕ → Entry → List Cell → Type 0
AreCellsFor disk process (Attached at fd part) cells =
    (s : Store) (d : Descriptor) → Valid s → IsDiskOf disk s → descriptor_at s process fd ≡ Some d →
    cells ≡ cells_of_part s d.file part
AreCellsFor disk process entry cells = Unit {0}

-- the cells that an attach hands in are those of the part in this store
abbrev pub AreCellsIn : Store → Entry → List Cell → Type 0
AreCellsIn s (Attached at fd part) cells =
    (d : Descriptor) → descriptor_at s at.process fd ≡ Some d → cells ≡ cells_of_part s d.file part
AreCellsIn s entry cells = Unit {0}

-- a state of the abstract machine, and the store after an entry that a process adds
pub record TableChange : Type 0 where
  pub process : ℕ
  pub before : State
  pub after : Store

-- the entry of an act was added to the state, whose tables these are, by this process; the disk shows the store after
-- it, and these are the cells that an attach hands in
pub record CanChangeTables {T M P : Type 0} (K : sides.Ghosts T P) (x : Parts T M P) (g : TableChange) (e : Entry)
    (cells : List Cell) : Type 0 where
  pub tables : K.shows x.tables g.before.tables
  pub reached : Reached g.before
  pub place : Place
  pub running_is : running g.before g.process ≡ Some place
  pub row : Row
  pub adds : next_action g.before place ≡ Some (Adds row e)
  pub act : Act
  pub of_act : entry_of_act g.before.store place act ≡ Some e
  pub disk : IsDiskOf x.disk g.after
  pub after : g.after ≡ effect_of g.before.store place e
  pub cells_are : AreCellsIn g.after e cells
