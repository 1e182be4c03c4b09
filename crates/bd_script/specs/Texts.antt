-- The text of a script: its lines, and what stands in each.
use Rattle.std.specs.Prelude.{◌≡◌, ℕ, ◌-◌, ◌≤◌, nat_eq, cond, List, [], ◌∷◌, ◌++◌, length, map, codes}
use Rattle.std.specs.List.{flat_map}
use Rattle.bd_base.specs.declared.limits.TheConstants.{SCRIPT_SIZE}
use Rattle.bd_base.specs.declared.script.Call.{Call}
use Rattle.bd_base.specs.declared.script.Call.TheVariants.{Enter, Create, Read, Write, Truncate, Unlink, Size, Map, Close, RawRead, RawWrite}
use Rattle.bd_base.specs.declared.script.Item.{Item}
use Rattle.bd_base.specs.declared.script.Process.{Process}
use Rattle.bd_base.specs.declared.script.ScheduleLine.{ScheduleLine}
use Rattle.bd_base.specs.declared.script.Script.{Script}
use Rattle.bd_blocks.specs.Runs.{runs_text}
use Rattle.bd_blocks.specs.Texts.{before, number_text}
use Rattle.bd_blocks.specs.Words.{mode_and_how_text}
use Rattle.bd_blocks.specs.declared.text.TheConstants.{LF, SPACE}
use Rattle.bd_base.specs.Scripts.{IsWithinLimits}

-- an item as it is written: an actor alone, or an actor and a number of turns
pub data Written : Type 0 where
  Alone : (actor : ℕ) → Written
  Times : (actor turns : ℕ) → Written

-- what a line after the first says, whatever its numbers
pub data Form : Type 0 where
  ProcForm : (uid : ℕ) → Form
  CallForm : (call : Call) → Form
  ScheduleForm : (items : List Written) → Form

-- the line of a call
abbrev pub call_text : Call → List ℕ
call_text (Enter name mode how) = codes "open " ++ before name (mode_and_how_text (mode, how))
call_text (Create name perms) = codes "create " ++ before name (number_text perms)
call_text (Read fd off len) = codes "read " ++ before (number_text fd) (before (number_text off) (number_text len))
call_text (Write fd off bytes) = codes "write " ++ before (number_text fd) (before (number_text off) (runs_text bytes))
call_text (Truncate fd size) = codes "truncate " ++ before (number_text fd) (number_text size)
call_text (Unlink name) = codes "unlink " ++ name
call_text (Size fd) = codes "size " ++ number_text fd
call_text (Map fd) = codes "map " ++ number_text fd
call_text (Close fd) = codes "close " ++ number_text fd
call_text (RawRead vba range) =
    codes "raw-read " ++ before (number_text vba) (before (number_text range.lo) (number_text (range.hi - range.lo)))
call_text (RawWrite vba lo bytes) =
    codes "raw-write " ++ before (number_text vba) (before (number_text lo) (runs_text bytes))

-- `A` or `A*N`
abbrev pub written_text : Written → List ℕ
written_text (Alone actor) = number_text actor
written_text (Times actor turns) = number_text actor ++ 42 ∷ number_text turns

-- items after others: a space before each
abbrev pub later_items : List Written → List ℕ
later_items [] = []
later_items (w ∷ ws) = SPACE ∷ (written_text w ++ later_items ws)

-- items parted by one space
abbrev pub items_text : List Written → List ℕ
items_text [] = []
items_text (w ∷ ws) = written_text w ++ later_items ws

-- a line after the first, without its LF
abbrev pub form_text : Form → List ℕ
form_text (ProcForm uid) = codes "proc " ++ number_text uid
form_text (CallForm call) = call_text call
form_text (ScheduleForm items) = codes "schedule " ++ items_text items

-- lines, each ended by LF
abbrev pub lines_text : List Form → List ℕ
lines_text [] = []
lines_text (f ∷ fs) = form_text f ++ LF ∷ lines_text fs

-- how an item is written: one turn by its actor alone
abbrev pub written_item : Item → Written
written_item i = cond (nat_eq i.turns 1) (Alone i.actor) (Times i.actor i.turns)

-- the line of a process, and those of its calls
abbrev pub process_lines : Process → List Form
process_lines p = ProcForm p.uid ∷ map CallForm p.calls

-- a schedule line
abbrev pub schedule_line : ScheduleLine → Form
schedule_line l = ScheduleForm (map written_item l.items)

-- the lines of a script after the first
abbrev pub script_lines : Script → List Form
script_lines s = flat_map process_lines s.processes ++ map schedule_line s.schedule

-- the first line of a script, without its LF
abbrev pub header : List ℕ
header = codes "bypassd-script 1"

-- the text of a script
abbrev pub script_text : Script → List ℕ
script_text s = header ++ LF ∷ lines_text (script_lines s)

-- what a script holds is within the limits, and its text is not too long
pub record IsScript (s : Script) : Type 0 where
  pub limits : IsWithinLimits s
  pub size : length (script_text s) ≤ SCRIPT_SIZE

-- the text is that of a script
abbrev pub IsScriptText : List ℕ → Type 0
IsScriptText text = (s : Script) × IsScript s × (text ≡ script_text s)
