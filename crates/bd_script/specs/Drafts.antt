-- Scripts that are being made of lines.
use Rattle.std.specs.Prelude.{◌≡◌, ℕ, ◌+◌, List, [], ◌∷◌, ◌++◌, map, take, Option, None}
use Rattle.std.specs.Option.{option_to_list}
use Rattle.bd_base.specs.declared.script.Process.{Process}
use Rattle.bd_base.specs.declared.script.ScheduleLine.{ScheduleLine}
use Rattle.bd_base.specs.declared.script.Script.{Script}
use Rattle.bd_script.specs.declared.fault.Fault.{Fault}
use Rattle.bd_script.specs.declared.fault.Fault.TheVariants.{Order, Place, Actor, OutOfMemory}
use Rattle.bd_base.specs.declared.limits.TheConstants.{ITEMS, TURNS}
use Rattle.bd_script.specs.declared.schedules.Turns.{Turns}
use Rattle.bd_script.specs.Rules.{HasActors, HasPlace, IsForm, IsInOrder, IsInRange, counts_of}
use Rattle.bd_base.specs.Scripts.{IsWithinLimits, total_turns}
use Rattle.bd_script.specs.Schedules.{kept_of}
use Rattle.bd_script.specs.Texts.{Form, ScheduleForm, Written, script_lines}

-- what a draft keeps: the processes before the last, the last, the schedule lines, and how many turns are left
pub record Parts : Type 0 where
  pub processes : List Process
  pub last : Option Process
  pub schedule : List ScheduleLine
  pub left : ℕ

abbrev pub parts : List Process → Option Process → List ScheduleLine → ℕ → Parts
parts processes last schedule left = record { processes = processes; last = last; schedule = schedule; left = left }

-- the script so far
abbrev pub script_of : Parts → Script
script_of d = record { processes = d.processes ++ option_to_list d.last; schedule = d.schedule }

-- the script so far is within the limits, and the turns that are left are counted
pub record IsDraft (d : Parts) : Type 0 where
  pub limits : IsWithinLimits (script_of d)
  pub no_last : d.last ≡ None → d.processes ≡ []
  pub left : d.left + total_turns d.schedule ≡ TURNS

-- the script with one more line, which is within the limits
pub record HasMore (s : Script) (form : Form) (new : Script) : Type 0 where
  pub limits : IsWithinLimits new
  pub lines : script_lines new ≡ script_lines s ++ form ∷ []

-- why a script takes no such line: the least rule that it breaks
abbrev pub RefusesForm : Script → Form → Fault → Type 0
RefusesForm s form Order = ¬ IsInOrder (counts_of s) form
RefusesForm s form Place = IsInOrder (counts_of s) form × ¬ HasPlace (counts_of s) form
RefusesForm s form Actor =
    IsInOrder (counts_of s) form × HasPlace (counts_of s) form × ¬ HasActors (counts_of s) form
RefusesForm s form OutOfMemory = Unit {0}
RefusesForm s form fault = ⊥

-- a form in range was read
abbrev pub IsReadForm : (Form → Type 0) → Type 0
IsReadForm IsRead = (form : Form) × IsForm form × IsInRange form × IsRead form

-- the script with whichever form in range was read
abbrev pub TakesForm : (Form → Type 0) → Script → Script → Type 0
TakesForm IsRead s new = (form : Form) → IsForm form → IsInRange form → IsRead form → HasMore s form new

-- why it takes none
abbrev pub RefusesForms : (Form → Type 0) → Script → Fault → Type 0
RefusesForms IsRead s fault =
    (form : Form) → IsForm form → IsInRange form → IsRead form → RefusesForm s form fault

-- the form of a schedule line of which these are kept
abbrev pub AreKeptOf : List Turns → Form → Type 0
AreKeptOf kept form =
    (items : List Written) × (form ≡ ScheduleForm items) × (kept ≡ map kept_of (take (ITEMS + 1) items))
