-- The rules of a script's lines, and which of them a line breaks after the lines of a script.
use Rattle.std.specs.Prelude.{◌≡◌, ℕ, ◌+◌, ◌*◌, ◌<◌, ◌≤◌, Bool, true, List, [], ◌∷◌, length, All}
use Rattle.bd_base.specs.Rules.{IsLeastBroken}
use Rattle.bd_base.specs.Bytes.{AreBytes}
use Rattle.bd_base.specs.Names.{IsName}
use Rattle.bd_base.specs.declared.limits.TheConstants.{CALLS, ITEMS, PROCESSES, SCHEDULES, TURNS, USERS}
use Rattle.bd_base.specs.declared.script.Call.{Call}
use Rattle.bd_base.specs.declared.script.Call.TheVariants.{Enter, Create, Write, Unlink, RawRead, RawWrite}
use Rattle.bd_base.specs.declared.script.Process.{Process}
use Rattle.bd_base.specs.declared.script.Script.{Script}
use Rattle.bd_base.specs.Scripts.{IsCall, total_turns}
use Rattle.bd_script.specs.Texts.{Form, ProcForm, CallForm, ScheduleForm, Written, Alone, Times, form_text}

-- the fields of a call are of their kinds: its name is a name, its bytes are some
abbrev pub HasFields : Call → Type 0
HasFields (Enter name mode how) = IsName name
HasFields (Create name perms) = IsName name
HasFields (Write fd off bytes) = AreBytes bytes × (1 ≤ length bytes)
HasFields (Unlink name) = IsName name
HasFields (RawRead vba range) = range.lo ≤ range.hi
HasFields (RawWrite vba lo bytes) = AreBytes bytes × (1 ≤ length bytes)
HasFields call = Unit {0}

-- the line has a form of the table
abbrev pub IsForm : Form → Type 0
IsForm (ProcForm uid) = Unit {0}
IsForm (CallForm call) = HasFields call
IsForm (ScheduleForm items) = 1 ≤ length items

-- the turns of an item are in their range
abbrev pub HasTurns : Written → Type 0
HasTurns (Alone actor) = Unit {0}
HasTurns (Times actor turns) = (2 ≤ turns) × (turns ≤ TURNS)

-- each number of the line, and the number of its bytes, is in its range
abbrev pub IsInRange : Form → Type 0
IsInRange (ProcForm uid) = uid < USERS
IsInRange (CallForm call) = IsCall call
IsInRange (ScheduleForm items) = All HasTurns items

-- the actor of an item
abbrev pub actor_of : Written → ℕ
actor_of (Alone actor) = actor
actor_of (Times actor turns) = actor

-- the turns of these items together
abbrev pub turns_written : List Written → ℕ
turns_written [] = 0
turns_written (Alone actor ∷ items) = 1 + turns_written items
turns_written (Times actor turns ∷ items) = turns + turns_written items

-- what was counted in the lines so far: processes, calls of the last process, schedule lines, and turns
pub record Counts : Type 0 where
  pub processes : ℕ
  pub calls : ℕ
  pub schedules : ℕ
  pub turns : ℕ

-- how many calls the last process has, none where there is no process
abbrev pub last_calls : List Process → ℕ
last_calls [] = 0
last_calls (p ∷ []) = length p.calls
last_calls (p ∷ q ∷ ps) = last_calls (q ∷ ps)

-- the counts of a script
abbrev pub counts_of : Script → Counts
counts_of s =
    record {
      processes = length s.processes;
      calls = last_calls s.processes;
      schedules = length s.schedule;
      turns = total_turns s.schedule;
    }

-- a call stands after a process, and no process or call after a schedule line
abbrev pub IsInOrder : Counts → Form → Type 0
IsInOrder c (ProcForm uid) = c.schedules ≡ 0
IsInOrder c (CallForm call) = (1 ≤ c.processes) × (c.schedules ≡ 0)
IsInOrder c (ScheduleForm items) = Unit {0}

-- with this line there are not too many processes, calls, schedule lines, items or turns
abbrev pub HasPlace : Counts → Form → Type 0
HasPlace c (ProcForm uid) = c.processes < PROCESSES
HasPlace c (CallForm call) = c.calls < CALLS
HasPlace c (ScheduleForm items) =
    (c.schedules < SCHEDULES) × (length items ≤ ITEMS) × (c.turns + turns_written items ≤ TURNS)

-- each actor of the line is there
abbrev pub HasActors : Counts → Form → Type 0
HasActors c (ProcForm uid) = Unit {0}
HasActors c (CallForm call) = Unit {0}
HasActors c (ScheduleForm items) = All (λ (w : Written). actor_of w ≤ 2 * c.processes) items

-- the rules of a line after the first, by what each is about
pub data Rule : Type 0 where
  Ended : Rule
  Formed : Rule
  Ranges : Rule
  Order : Rule
  Places : Rule
  Actors : Rule

-- the number of a rule, as it is told
abbrev pub rule_number : Rule → ℕ
rule_number Ended = 3
rule_number Formed = 4
rule_number Ranges = 5
rule_number Order = 6
rule_number Places = 7
rule_number Actors = 8

-- the line, ended by LF or not, meets the rule after lines with these counts
abbrev pub Obeys : Counts → List ℕ → Bool → Rule → Type 0
Obeys c line ended Ended = ended ≡ true
Obeys c line ended Formed = (f : Form) × IsForm f × (line ≡ form_text f)
Obeys c line ended Ranges = (f : Form) → IsForm f → line ≡ form_text f → IsInRange f
Obeys c line ended Order = (f : Form) → IsForm f → line ≡ form_text f → IsInOrder c f
Obeys c line ended Places = (f : Form) → IsForm f → line ≡ form_text f → HasPlace c f
Obeys c line ended Actors = (f : Form) → IsForm f → line ≡ form_text f → HasActors c f

-- of the rules that the line breaks the least is the one of this number
abbrev pub IsLeastRuleBroken : Counts → List ℕ → Bool → ℕ → Type 0
IsLeastRuleBroken c line ended =
    IsLeastBroken Rule rule_number (Obeys c line ended) (λ rule. ¬ Obeys c line ended rule)
