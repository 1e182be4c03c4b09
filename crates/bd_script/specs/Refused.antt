-- What the steps of the reader answer.
use Rattle.std.specs.Prelude.{◌≡◌, ◌⊎◌, ℕ, true, List, MatchOption, Result, IsErrOf}
use Rattle.bd_base.specs.declared.script.Script.{Script}
use Rattle.bd_script.specs.Refusals.{IsBadScript}
use Rattle.bd_script.specs.declared.error.ScriptError.{ScriptError}
use Rattle.bd_script.specs.declared.error.ScriptError.TheVariants.{BadScript, OutOfMemory}
use Rattle.bd_script.specs.declared.fault.Fault.{Fault}
use Rattle.bd_script.specs.Drafts.{HasMore}
use Rattle.bd_script.specs.Reading.{fault_rule}
use Rattle.bd_script.specs.Rules.{IsLeastRuleBroken, counts_of}
use Rattle.bd_script.specs.Texts.{Form, form_text}

-- the script with the form of this line
pub record TakesLine (s : Script) (line : List ℕ) (new : Script) : Type 0 where
  pub form : Form
  pub spelled : line ≡ form_text form
  pub more : HasMore s form new

-- the line, which is ended, breaks this rule first after those of the script; that no memory was found says nothing
abbrev pub RefusesNext : Script → List ℕ → Fault → Type 0
RefusesNext s line fault =
    MatchOption (fault_rule fault) (Unit {0}) (λ (rule : ℕ). IsLeastRuleBroken (counts_of s) line true rule)

-- what an error says of the text; that no memory was found says nothing
abbrev pub RefusesScript : List ℕ → ScriptError → Type 0
RefusesScript text (BadScript line rule) = IsBadScript text line rule
RefusesScript text OutOfMemory = Unit {0}

-- of a text with this first bad line just this is told, unless no memory was found
abbrev pub TellsBadScript : List ℕ → Result Script ScriptError → Type 0
TellsBadScript text result =
    (line rule : ℕ) → IsBadScript text line rule
    → IsErrOf result (BadScript line rule) ⊎ IsErrOf result OutOfMemory
