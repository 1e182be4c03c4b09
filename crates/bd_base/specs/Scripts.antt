-- What a script may hold.
use Rattle.std.specs.Prelude.{ℕ, ◌+◌, ◌*◌, ◌-◌, ◌<◌, ◌≤◌, List, [], ◌∷◌, length, All}
use Rattle.bd_base.specs.Bytes.{AreBytes}
use Rattle.bd_base.specs.Names.{IsName}
use Rattle.bd_base.specs.declared.limits.TheConstants.{ADDRESSES, BLOCK_SIZE, CALLS, CALL_BYTES, ITEMS, LAST_PLACE, NAMED_FDS, PERMS, PROCESSES, SCHEDULES, TURNS, USERS}
use Rattle.bd_base.specs.declared.script.Call.{Call}
use Rattle.bd_base.specs.declared.script.Call.TheVariants.{Enter, Create, Read, Write, Truncate, Unlink, Size, Map, Close, RawRead, RawWrite}
use Rattle.bd_base.specs.declared.script.Item.{Item}
use Rattle.bd_base.specs.declared.script.Process.{Process}
use Rattle.bd_base.specs.declared.script.ScheduleLine.{ScheduleLine}
use Rattle.bd_base.specs.declared.script.Script.{Script}

-- these are at least one byte, and at most so many
abbrev pub AreBytesUpTo : ℕ → List ℕ → Type 0
AreBytesUpTo most bytes = AreBytes bytes × (1 ≤ length bytes) × (length bytes ≤ most)

-- each number of the call, and the number of its bytes, is in its range, and its name is a name
abbrev pub IsCall : Call → Type 0
IsCall (Enter name mode how) = IsName name
IsCall (Create name perms) = IsName name × (perms < PERMS)
IsCall (Read fd off len) = (fd < NAMED_FDS) × (off ≤ LAST_PLACE) × (1 ≤ len) × (len ≤ CALL_BYTES)
IsCall (Write fd off bytes) = (fd < NAMED_FDS) × (off ≤ LAST_PLACE) × AreBytesUpTo CALL_BYTES bytes
IsCall (Truncate fd size) = (fd < NAMED_FDS) × (size ≤ LAST_PLACE)
IsCall (Unlink name) = IsName name
IsCall (Size fd) = fd < NAMED_FDS
IsCall (Map fd) = fd < NAMED_FDS
IsCall (Close fd) = fd < NAMED_FDS
IsCall (RawRead vba range) = (vba < ADDRESSES) × (range.lo < range.hi) × (range.hi ≤ BLOCK_SIZE)
IsCall (RawWrite vba lo bytes) = (vba < ADDRESSES) × (lo < BLOCK_SIZE) × AreBytesUpTo (BLOCK_SIZE - lo) bytes

-- a user, and calls that are not too many
pub record IsProcess (p : Process) : Type 0 where
  pub uid : p.uid < USERS
  pub count : length p.calls ≤ CALLS
  pub calls : All IsCall p.calls

-- an actor that a script of so many processes has, and turns that are not too many
pub record IsItem (processes : ℕ) (i : Item) : Type 0 where
  pub actor : i.actor ≤ 2 * processes
  pub some : 1 ≤ i.turns
  pub most : i.turns ≤ TURNS

-- the items of a schedule line
pub record IsSchedule (processes : ℕ) (l : ScheduleLine) : Type 0 where
  pub some : 1 ≤ length l.items
  pub most : length l.items ≤ ITEMS
  pub items : All (IsItem processes) l.items

-- the turns of these items together
abbrev pub turns_of : List Item → ℕ
turns_of [] = 0
turns_of (i ∷ items) = i.turns + turns_of items

-- the turns of these schedule lines together
abbrev pub total_turns : List ScheduleLine → ℕ
total_turns [] = 0
total_turns (l ∷ lines) = turns_of l.items + total_turns lines

-- all that a script holds is within the limits
pub record IsWithinLimits (s : Script) : Type 0 where
  pub process_count : length s.processes ≤ PROCESSES
  pub processes : All IsProcess s.processes
  pub schedule_count : length s.schedule ≤ SCHEDULES
  pub schedule : All (IsSchedule (length s.processes)) s.schedule
  pub turns : total_turns s.schedule ≤ TURNS
