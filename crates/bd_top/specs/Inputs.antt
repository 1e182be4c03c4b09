-- What was read of an image and of a script, and why one is refused.
use Rattle.std.specs.Prelude.{◌≡◌, ◌⊎◌, ℕ, ◌+◌, Bool, not, List, [], ◌∷◌, length, position, Option, None, Some}
use Rattle.std.specs.Option.{option_map, option_or}
use Rattle.bd_base.specs.declared.limits.TheConstants.{IMAGE_SIZE, SCRIPT_SIZE}
use Rattle.bd_base.specs.declared.script.Call.{Call}
use Rattle.bd_base.specs.declared.script.Process.{Process}
use Rattle.bd_base.specs.declared.script.Script.{Script}
use Rattle.bd_base.specs.declared.volume.Volume.{Volume}
use Rattle.bd_image.specs.Rules.{Accepted, Broken}
use Rattle.bd_image.specs.Volumes.{AcceptedVolume, volume_of}
use Rattle.bd_machine.specs.Turns.{is_built}
use Rattle.bd_outside.specs.Around.{ReadAll, ReadFailed, ReadNothing, ReadUpTo, Reading}
use Rattle.bd_script.specs.Refusals.{IsBadScript}
use Rattle.bd_script.specs.Texts.{IsScript, script_text}
use Rattle.bd_top.specs.declared.status.Status.{Status}
use Rattle.bd_top.specs.declared.status.Status.TheVariants.{ReadFault, BadImage, BadScript, OutOfMemory}
use Rattle.bd_top.specs.declared.status.Which.TheVariants.{Image, Script as Script_}

-- the image was read to its end and is accepted, and this is the volume that it says
pub record IsImageRead (image : Reading) (v : Volume) : Type 0 where
  pub bytes : List ℕ
  pub read : ReadAll image bytes
  pub accepted : Accepted bytes
  pub says : v ≡ volume_of bytes
  pub volume : AcceptedVolume v

-- the image, read as far as an image may go, breaks this rule at this place: the least of both
pub record IsBadImage (image : Reading) (rule place : ℕ) : Type 0 where
  pub bytes : List ℕ
  pub read : ReadUpTo IMAGE_SIZE image bytes
  pub broken : Broken bytes rule place

-- the script was read to its end, and this is the one that its text is of
pub record IsScriptRead (text : Reading) (script : Script) : Type 0 where
  pub bytes : List ℕ
  pub read : ReadAll text bytes
  pub is_script : IsScript script
  pub is_text : bytes ≡ script_text script

-- the script, read as far as a script may go, has this first bad line, which breaks this least rule
pub record IsScriptBad (text : Reading) (line rule : ℕ) : Type 0 where
  pub bytes : List ℕ
  pub read : ReadUpTo SCRIPT_SIZE text bytes
  pub bad : IsBadScript bytes line rule

-- why there is no volume: a read failed, the image breaks a rule, or no memory was found
abbrev pub RefusesImage : Reading → Status → Type 0
RefusesImage image (ReadFault Image) = ReadFailed image
RefusesImage image (BadImage rule place) = IsBadImage image rule place
RefusesImage image OutOfMemory = Unit {0}
RefusesImage image status = ⊥

-- why there is no script: a read failed, a line is bad, or no memory was found
abbrev pub RefusesScript : Reading → Status → Type 0
RefusesScript text (ReadFault Script_) = ReadFailed text
RefusesScript text (BadScript line rule) = IsScriptBad text line rule
RefusesScript text OutOfMemory = Unit {0}
RefusesScript text status = ⊥

-- ---- calls that are not built yet

-- whether the machine does not run the call
abbrev pub is_unbuilt : Call → Bool
is_unbuilt call = not (is_built call)

-- the number of the first line of a call that the machine does not run, if there is one, where the first of these
-- processes has a line of this number and its calls have the next ones
abbrev pub unbuilt_from : ℕ → List Process → Option ℕ
unbuilt_from line [] = None
unbuilt_from line (p ∷ processes) =
    option_or (option_map (λ call. line + 1 + call) (position is_unbuilt p.calls))
    (unbuilt_from (line + 1 + length p.calls) processes)

-- the same of a script, whose first line has the number 1
abbrev pub first_unbuilt : Script → Option ℕ
first_unbuilt script = unbuilt_from 2 script.processes

-- the script was read, and that line of it is of the first call that is not built: no rule is broken
pub record IsUnbuilt (text : Reading) (line rule : ℕ) : Type 0 where
  pub script : Script
  pub read : IsScriptRead text script
  pub first : first_unbuilt script ≡ Some line
  pub no_rule : rule ≡ 0

-- ---- a replay

-- why there is no script that is run, or no run
abbrev pub RefusesRun : Reading → Status → Type 0
RefusesRun text (BadScript line rule) = IsScriptBad text line rule ⊎ IsUnbuilt text line rule
RefusesRun text status = RefusesScript text status

-- why no run was made: the image was refused and the script not looked at, or the image was read and the script refused
abbrev pub RefusesReplay : Reading → Reading → Status → Type 0
RefusesReplay image text status =
    (RefusesImage image status × ReadNothing text)
    ⊎ ((v : Volume) × IsImageRead image v × RefusesRun text status)
