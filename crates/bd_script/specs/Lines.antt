-- What a line is read as.
use Rattle.std.specs.Prelude.{◌≡◌, ℕ, ◌+◌, ◌≤◌, List, length, map, take}
use Rattle.bd_base.specs.declared.script.Call.{Call}
use Rattle.bd_base.specs.declared.limits.TheConstants.{ITEMS}
use Rattle.bd_script.specs.declared.lines.Line.{Line}
use Rattle.bd_script.specs.declared.lines.Line.TheVariants.{Proc, Call as CallRead, Schedule}
use Rattle.bd_script.specs.Rules.{IsForm, IsInRange}
use Rattle.bd_script.specs.Schedules.{kept_of}
use Rattle.bd_script.specs.Texts.{Form, ProcForm, CallForm, ScheduleForm, Written, form_text}

-- what was read stands for the form; of the items no more is kept than one past the limit
abbrev pub Stands : Line → Form → Type 0
Stands (Proc uid) form = form ≡ ProcForm uid
Stands (CallRead call) form = form ≡ CallForm call
Stands (Schedule kept) form =
    (items : List Written) × (form ≡ ScheduleForm items) × (kept.items ≡ map kept_of (take (ITEMS + 1) items))

-- the line has a form in range, for which what was read stands
pub record IsReadLine (text : List ℕ) (line : Line) : Type 0 where
  pub form : Form
  pub is_form : IsForm form
  pub in_range : IsInRange form
  pub spelled : text ≡ form_text form
  pub stands : Stands line form
