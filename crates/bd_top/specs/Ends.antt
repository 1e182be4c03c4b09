-- What each command promises: what stands behind the end that its status tells, and which end its inputs lead to.
use Rattle.std.specs.Prelude.{◌≡◌, ◌⊎◌, ℕ, ◌+◌, Bool, List, [], Option, None, Some}
use Rattle.bd_base.specs.declared.limits.TheConstants.{IMAGE_SIZE, SCRIPT_SIZE}
use Rattle.bd_base.specs.declared.script.Script.{Script}
use Rattle.bd_base.specs.declared.volume.Volume.{Volume}
use Rattle.bd_image.specs.Rules.{Accepted, Broken}
use Rattle.bd_gen.specs.Script.{made_script}
use Rattle.bd_gen.specs.Volume.{made_volume}
use Rattle.bd_image.specs.Volumes.{image_of, volume_of}
use Rattle.bd_script.specs.Refusals.{IsBadScript}
use Rattle.bd_script.specs.Texts.{IsScript, script_text}
use Rattle.bd_outside.specs.Around.{Left, ReadAtMost, Reading, WriteFailed, Writing, Wrote, WroteNothing, WrotePrefix}
use Rattle.bd_top.specs.declared.status.Outcome.{Outcome}
use Rattle.bd_top.specs.declared.status.Status.{Status}
use Rattle.bd_top.specs.declared.status.Status.TheVariants.{Done, ReadFault, WriteFault, BadImage, BadScript, OutOfMemory}
use Rattle.bd_top.specs.declared.status.To.TheVariants.{Out, Disk}
use Rattle.bd_top.specs.CheckLine.{check_line}
use Rattle.bd_top.specs.Inputs.{IsImageRead, RefusesImage, RefusesReplay, first_unbuilt}
use Rattle.bd_top.specs.Runs.{IsReplay}

-- the sources and sinks of a replay around the call
pub record ReplayAround : Type 0 where
  pub image : Reading
  pub script : Reading
  pub out : Writing
  pub disk : Writing

-- the status tells that a call failed or that no memory was found; the end that it tells says which
abbrev pub IsFault : Status → Type 0
IsFault (ReadFault which) = Unit {0}
IsFault (WriteFault to) = Unit {0}
IsFault OutOfMemory = Unit {0}
IsFault status = ⊥

-- the inputs alone decide the status, where no call fails and memory is found
abbrev pub Decide : (Status → Type 0) → Status → Type 0
Decide LeadTo status = (decided : Status) → LeadTo decided → (status ≡ decided) ⊎ IsFault status

-- there is no run
pub record NoRun (outcome : Outcome) : Type 0 where
  pub no_journal : outcome.journal ≡ []
  pub no_trace : outcome.trace ≡ []

-- ---- a text and an image

-- how far a text and then an image were written: nothing goes to disk before the whole text is out
abbrev pub TextAndImageWritten : Writing → Writing → List ℕ → List ℕ → Status → Type 0
TextAndImageWritten out disk text image Done = Wrote out text × Wrote disk image
TextAndImageWritten out disk text image (WriteFault Out) = WriteFailed out × WrotePrefix out text × WroteNothing disk
TextAndImageWritten out disk text image (WriteFault Disk) = WriteFailed disk × Wrote out text × WrotePrefix disk image
TextAndImageWritten out disk text image OutOfMemory =
    (WrotePrefix out text × WroteNothing disk) ⊎ (Wrote out text × WrotePrefix disk image)
TextAndImageWritten out disk text image status = ⊥

-- ---- replay

-- a replay was refused, and nothing was done
pub record ReplayRefused (around : ReplayAround) (outcome : Outcome) : Type 0 where
  pub refused : RefusesReplay around.image around.script outcome.status
  pub no_run : NoRun outcome
  pub out_same : WroteNothing around.out
  pub disk_same : WroteNothing around.disk

-- a run was made, and its text, with the journal or without, and the image that it left were written so far
pub record ReplayRan (print : Bool) (around : ReplayAround) (outcome : Outcome) : Type 0 where
  pub text : List ℕ
  pub left : List ℕ
  pub run : IsReplay around.image around.script print outcome.journal outcome.trace text left
  pub written : TextAndImageWritten around.out around.disk text left outcome.status

-- what stands behind the end of a replay
abbrev pub ReplayEnd : Bool → ReplayAround → Outcome → Type 0
ReplayEnd print around outcome = ReplayRefused around outcome ⊎ ReplayRan print around outcome

-- the image and the script that were left are good, and this holds of them
abbrev pub LeftGood : Reading → Reading → (Volume → Script → Type 0) → Type 0
LeftGood image text Holds =
    Left image (λ b. Accepted b
    × Left text (λ t. (script : Script) × IsScript script × (t ≡ script_text script) × Holds (volume_of b) script))

-- the status to which an image and a script lead
abbrev pub LeadReplayTo : Reading → Reading → Status → Type 0
LeadReplayTo image text (BadImage rule place) = Left image (λ b. Broken b rule place)
LeadReplayTo image text (BadScript line rule) =
    (Left image Accepted × Left text (λ t. IsBadScript t line rule))
    ⊎ (LeftGood image text (λ v script. first_unbuilt script ≡ Some line) × (rule ≡ 0))
LeadReplayTo image text Done = LeftGood image text (λ v script. first_unbuilt script ≡ None)
LeadReplayTo image text status = ⊥

-- what `replay` promises, where the journal is printed or not
pub record Replays (print : Bool) (around : ReplayAround) (outcome : Outcome) : Type 0 where
  pub end : ReplayEnd print around outcome
  pub decided : Decide (LeadReplayTo around.image around.script) outcome.status
  pub image_taken : ReadAtMost (IMAGE_SIZE + 1) around.image
  pub script_taken : ReadAtMost (SCRIPT_SIZE + 1) around.script

-- ---- check

-- how far a line was written
abbrev pub LineWritten : Writing → List ℕ → Status → Type 0
LineWritten out line Done = Wrote out line
LineWritten out line (WriteFault Out) = WriteFailed out × WrotePrefix out line
LineWritten out line OutOfMemory = WrotePrefix out line
LineWritten out line status = ⊥

-- the image was read, and the line that tells of it was written so far
abbrev pub CheckTold : Reading → Writing → Status → Type 0
CheckTold image out status = (v : Volume) × IsImageRead image v × LineWritten out (check_line v) status

-- what stands behind the end of a check: the image was refused and nothing written, or the line tells of it
abbrev pub CheckEnd : Reading → Writing → Status → Type 0
CheckEnd image out status = (RefusesImage image status × WroteNothing out) ⊎ CheckTold image out status

-- the status to which an image leads
abbrev pub LeadCheckTo : Reading → Status → Type 0
LeadCheckTo image (BadImage rule place) = Left image (λ b. Broken b rule place)
LeadCheckTo image Done = Left image Accepted
LeadCheckTo image status = ⊥

-- what `check` promises
pub record Checks (image : Reading) (out : Writing) (status : Status) : Type 0 where
  pub end : CheckEnd image out status
  pub decided : Decide (LeadCheckTo image) status
  pub image_taken : ReadAtMost (IMAGE_SIZE + 1) image

-- ---- make

-- what stands behind the end of a making: no memory was found and nothing written, or the text of the script and the
-- image were made and written so far
abbrev pub MakeEnd : ℕ → Writing → Writing → Status → Type 0
MakeEnd n out disk status =
    ((status ≡ OutOfMemory) × WroteNothing out × WroteNothing disk)
    ⊎ TextAndImageWritten out disk (script_text (made_script n)) (image_of made_volume) status

-- what `make` promises
pub record Makes (n : ℕ) (out disk : Writing) (status : Status) : Type 0 where
  pub end : MakeEnd n out disk status
  pub decided : (status ≡ Done) ⊎ IsFault status
