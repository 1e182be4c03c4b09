-- What `verify` reads, what it finds of a journal, and what it promises.
use Rattle.std.specs.Prelude.{Option, None, Some, ◌≡◌, ◌↔◌, ◌⊎◌, ◌<◌, ◌≤◌, ℕ, ◌+◌, ◌-◌, nat_eq, cond, Bool, true, List, ◌++◌, ◌∷◌, [], codes, count_by, drop, length, slice_get, sum_by, take}
use Rattle.std.specs.Option.{option_map_or}
use Rattle.bd_base.specs.declared.limits.TheConstants.{IMAGE_SIZE, JOURNAL_SIZE, SCRIPT_SIZE}
use Rattle.bd_base.specs.declared.script.Call.{Call}
use Rattle.bd_base.specs.declared.script.Process.{Process}
use Rattle.bd_base.specs.declared.script.Script.{Script}
use Rattle.bd_base.specs.declared.volume.Volume.{Volume}
use Rattle.bd_blocks.specs.declared.text.TheConstants.{LF}
use Rattle.bd_blocks.specs.Texts.{number_text}
use Rattle.bd_entry.specs.declared.entry.Entry.{Entry}
use Rattle.bd_entry.specs.Calls.{pieces_of_call}
use Rattle.bd_entry.specs.Ranges.{AreEntries}
use Rattle.bd_entry.specs.Reading.{IsAfterReport, IsBadJournal}
use Rattle.bd_entry.specs.Texts.{journal_text}
use Rattle.bd_image.specs.Rules.{Accepted, Broken}
use Rattle.bd_image.specs.Volumes.{volume_of}
use Rattle.bd_outside.specs.Around.{Left, ReadAll, ReadAtMost, ReadFailed, ReadNothing, ReadUpTo, Reading, WroteNothing, Writing}
use Rattle.bd_script.specs.Refusals.{IsBadScript}
use Rattle.bd_store.specs.declared.check.Verdict.{Verdict}
use Rattle.bd_store.specs.declared.check.Verdict.TheVariants as verdicts
use Rattle.bd_store.specs.Verdicts.{BreaksFirst, IsLegalInOrder, LacksEndOf}
use Rattle.bd_top.specs.declared.status.Status.{Status}
use Rattle.bd_top.specs.declared.status.Status.TheVariants.{Done, ReadFault, BadImage, BadScript, OutOfMemory, BadJournal, NotLegal, Unfinished}
use Rattle.bd_top.specs.declared.status.Which.TheVariants.{Script as Script_, Journal}
use Rattle.bd_top.specs.Ends.{Decide, LeftGood, LineWritten}
use Rattle.bd_top.specs.Inputs.{IsImageRead, IsScriptBad, IsScriptRead, RefusesImage, RefusesScript}

-- ---- the line that tells of a legal journal

-- how many calls the script has
abbrev pub call_count : Script → ℕ
call_count script = sum_by (λ (p : Process). length p.calls) script.processes

-- how many pieces the calls of a process have, a raw command one
abbrev pub pieces_in : Process → ℕ
pieces_in p = sum_by (λ (call : Call). length (pieces_of_call call)) p.calls

-- how many pieces the script's reads, writes and raw commands have
abbrev pub piece_count : Script → ℕ
piece_count script = sum_by pieces_in script.processes

-- the line: how many calls the script has, and how many pieces these have
abbrev pub verify_line : Script → List ℕ
verify_line script =
    codes "legal calls " ++ number_text (call_count script) ++ codes " pieces " ++ number_text (piece_count script)
    ++ LF ∷ []

-- ---- the journal in a text

-- whether the last line of the text, if there is one, is ended
abbrev pub is_ended : List ℕ → Bool
is_ended text = option_map_or (nat_eq LF) (slice_get text (length text - 1)) true

-- how many lines the text has; the last may not be ended
abbrev pub line_count : List ℕ → ℕ
line_count text = count_by (nat_eq LF) text + cond (is_ended text) 0 1

-- the text has these entries from the first line on that is the header of a journal
pub record HasJournal (text : List ℕ) (journal : List Entry) : Type 0 where
  pub place : ℕ
  pub after_report : IsAfterReport text place
  pub entries : AreEntries journal
  pub is_text : drop place text ≡ journal_text journal

-- from that line on this line, counted from the first of the whole text, is the first that has no reading
pub record HasBadLine (text : List ℕ) (line : ℕ) : Type 0 where
  pub place : ℕ
  pub after_report : IsAfterReport text place
  pub number : ℕ
  pub bad : IsBadJournal (drop place text) number
  pub line_is : line ≡ line_count (take place text) + number

-- the text is too long, which is told first, of line 0; or this is its first bad line
abbrev pub IsBadText : List ℕ → ℕ → Type 0
IsBadText text line =
    ((JOURNAL_SIZE < length text) × (line ≡ 0)) ⊎ ((length text ≤ JOURNAL_SIZE) × HasBadLine text line)

-- ---- what was read

-- the journal was read to its end, is not too long, and these are its entries
pub record IsJournalRead (text : Reading) (journal : List Entry) : Type 0 where
  pub bytes : List ℕ
  pub read : ReadAll text bytes
  pub size : length bytes ≤ JOURNAL_SIZE
  pub has : HasJournal bytes journal

-- the journal, read as far as one may go, has this bad line
pub record IsJournalBad (text : Reading) (line : ℕ) : Type 0 where
  pub bytes : List ℕ
  pub read : ReadUpTo JOURNAL_SIZE text bytes
  pub bad : IsBadText bytes line

-- the verdict on a journal, each exactly where it is so
pub record IsVerdictOn (v : Volume) (script : Script) (journal : List Entry) (verdict : Verdict) : Type 0 where
  pub legal : (verdict ≡ verdicts.Legal) ↔ IsLegalInOrder v script journal
  pub broken : (entry rule : ℕ) →
      (verdict ≡ verdicts.NotLegal entry rule) ↔ BreaksFirst v script journal entry rule
  pub unfinished : (process call : ℕ) →
      (verdict ≡ verdicts.Unfinished process call) ↔ LacksEndOf v script journal process call

-- ---- why no line is written

-- the journal was read, and the verdict on it is this one
abbrev pub IsJudged : Volume → Script → Reading → Verdict → Type 0
IsJudged v script text verdict =
    (journal : List Entry) × IsJournalRead text journal × IsVerdictOn v script journal verdict

-- why there is no journal: a read failed, a line is bad, or no memory was found; nor is there a verdict then
abbrev pub RefusesJournal : Reading → Status → Type 0
RefusesJournal text (ReadFault Journal) = ReadFailed text
RefusesJournal text (BadJournal line) = IsJournalBad text line
RefusesJournal text OutOfMemory = Unit {0}
RefusesJournal text status = ⊥

-- the status that tells of a verdict, none where the journal is legal
abbrev pub fault_of : Verdict → Option Status
fault_of verdicts.Legal = None
fault_of (verdicts.NotLegal entry rule) = Some (NotLegal entry rule)
fault_of (verdicts.Unfinished process call) = Some (Unfinished process call)

-- the image was refused, and nothing else was read
pub record ImageRefused (image text journal : Reading) (status : Status) : Type 0 where
  pub refused : RefusesImage image status
  pub script_same : ReadNothing text
  pub journal_same : ReadNothing journal

-- the image was read, the script refused, and the journal not read
pub record ScriptRefused (image text journal : Reading) (status : Status) : Type 0 where
  pub volume : Volume
  pub image_read : IsImageRead image volume
  pub refused : RefusesScript text status
  pub journal_same : ReadNothing journal

-- image and script were read, and the journal refused
pub record JournalRefused (image text journal : Reading) (status : Status) : Type 0 where
  pub volume : Volume
  pub script : Script
  pub image_read : IsImageRead image volume
  pub script_read : IsScriptRead text script
  pub refused : RefusesJournal journal status

-- all three were read, and the journal is not legal, or not finished
pub record JournalFaulty (image text journal : Reading) (status : Status) : Type 0 where
  pub volume : Volume
  pub script : Script
  pub verdict : Verdict
  pub image_read : IsImageRead image volume
  pub script_read : IsScriptRead text script
  pub judged : IsJudged volume script journal verdict
  pub fault : fault_of verdict ≡ Some status

-- the three inputs in their order: each is looked at where those before it are good
abbrev pub RefusesVerify : Reading → Reading → Reading → Status → Type 0
RefusesVerify image text journal status =
    ImageRefused image text journal status ⊎ ScriptRefused image text journal status
    ⊎ JournalRefused image text journal status ⊎ JournalFaulty image text journal status

-- the inputs were read, and the journal is legal and in order
pub record FindsLegal (image text journal : Reading) (script : Script) : Type 0 where
  pub volume : Volume
  pub image_read : IsImageRead image volume
  pub script_read : IsScriptRead text script
  pub judged : IsJudged volume script journal verdicts.Legal

-- ---- what `verify` promises

-- the journal was found legal, and the line that tells so was written so far
abbrev pub VerifyTold : Reading → Reading → Reading → Writing → Status → Type 0
VerifyTold image text journal out status =
    (script : Script) × FindsLegal image text journal script × LineWritten out (verify_line script) status

-- what stands behind the end of a verification: a refusal, with nothing written, or the line
abbrev pub VerifyEnd : Reading → Reading → Reading → Writing → Status → Type 0
VerifyEnd image text journal out status =
    (RefusesVerify image text journal status × WroteNothing out) ⊎ VerifyTold image text journal out status

-- the three inputs that were left have a reading, and this holds of them
abbrev pub LeftAll : Reading → Reading → Reading → (Volume → Script → List Entry → Type 0) → Type 0
LeftAll image text journal Holds =
    LeftGood image text (λ v script. Left journal (λ j. (length j ≤ JOURNAL_SIZE)
    × (entries : List Entry) × HasJournal j entries × Holds v script entries))

-- the status to which an image, a script and a journal lead
abbrev pub LeadVerifyTo : Reading → Reading → Reading → Status → Type 0
LeadVerifyTo image text journal (BadImage rule place) = Left image (λ b. Broken b rule place)
LeadVerifyTo image text journal (BadScript line rule) =
    Left image Accepted × Left text (λ t. IsBadScript t line rule)
LeadVerifyTo image text journal (BadJournal line) =
    LeftGood image text (λ v script. Left journal (λ j. IsBadText j line))
LeadVerifyTo image text journal (NotLegal entry rule) =
    LeftAll image text journal (λ v script entries. BreaksFirst v script entries entry rule)
LeadVerifyTo image text journal (Unfinished process call) =
    LeftAll image text journal (λ v script entries. LacksEndOf v script entries process call)
LeadVerifyTo image text journal Done = LeftAll image text journal IsLegalInOrder
LeadVerifyTo image text journal status = ⊥

-- what `verify` promises
pub record Verifies (image text journal : Reading) (out : Writing) (status : Status) : Type 0 where
  pub end : VerifyEnd image text journal out status
  pub decided : Decide (LeadVerifyTo image text journal) status
  pub image_taken : ReadAtMost (IMAGE_SIZE + 1) image
  pub script_taken : ReadAtMost (SCRIPT_SIZE + 1) text
  pub journal_taken : ReadAtMost (JOURNAL_SIZE + 1) journal
