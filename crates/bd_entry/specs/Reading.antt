-- What the steps of reading a journal answer.
use Rattle.std.specs.Prelude.{◌≡◌, ◌≢◌, ◌⊎◌, ℕ, ◌+◌, ◌-◌, ◌<◌, ◌≤◌, Bool, false, Option, List, [], ◌∷◌, ◌++◌, length, drop, slice_index, MatchOption}
use Rattle.bd_base.specs.Bounds.{Bounds}
use Rattle.bd_base.specs.declared.journal.At.{At}
use Rattle.bd_base.specs.declared.limits.TheConstants.{BLOCKS, DESCRIPTORS, FILES, LAST_INDEX, PIECES}
use Rattle.bd_base.specs.declared.reason.Reason.{Reason}
use Rattle.bd_base.specs.declared.reason.Reason.TheVariants.{Denied, OpenBy, KernelOpen}
use Rattle.bd_blocks.specs.Texts.{before, from_line, has_byte, number_text, optional_text}
use Rattle.bd_blocks.specs.Words.{direction_text, way_text}
use Rattle.bd_blocks.specs.declared.text.TheConstants.{LF}
use Rattle.bd_entry.specs.Calls.{at_of}
use Rattle.bd_entry.specs.Ranges.{AreEntries, IsAt, IsEntry, IsInRange, IsOptional, IsRange}
use Rattle.bd_entry.specs.Texts.{entry_text, fields_text, header, journal_text, word_of}
use Rattle.bd_entry.specs.declared.entry.Entry.{Entry}
use Rattle.bd_entry.specs.declared.error.JournalError.{JournalError}
use Rattle.bd_entry.specs.declared.error.JournalError.TheVariants.{BadJournal, OutOfMemory}
use Rattle.bd_entry.specs.declared.read.kinds.Target.{Target}
use Rattle.bd_entry.specs.declared.words.Word.{Word}

-- the number is at most so much
abbrev pub IsUpTo : ℕ → ℕ → Type 0
IsUpTo most n = n ≤ most

-- two numbers, each at most so much
abbrev pub IsPairUpTo : ℕ → ℕ → ℕ × ℕ → Type 0
IsPairUpTo a b p = (p.0 ≤ a) × (p.1 ≤ b)

-- the range from one place to another
abbrev pub bounds : ℕ → ℕ → Bounds
bounds lo hi = record { lo = lo; hi = hi }

-- the text begins with the two fields of this range, and this is the rest
abbrev pub HasRangeFirst : List ℕ → Bounds → List ℕ → Type 0
HasRangeFirst text r rest = IsRange r × (text ≡ before (number_text r.lo) (before (number_text r.hi) rest))

-- the text begins with those of no range
abbrev pub HasNoRangeFirst : List ℕ → Type 0
HasNoRangeFirst text =
    (r : Bounds) (rest : List ℕ) → IsRange r → text ≢ before (number_text r.lo) (before (number_text r.hi) rest)

-- the text begins with the two fields of this call, and this is the rest
abbrev pub HasAtFirst : List ℕ → At → List ℕ → Type 0
HasAtFirst text at rest = IsAt at × (text ≡ before (number_text at.process) (before (number_text at.call) rest))

-- the text begins with those of no call
abbrev pub HasNoAtFirst : List ℕ → Type 0
HasNoAtFirst text =
    (at : At) (rest : List ℕ) → IsAt at
    → text ≢ before (number_text at.process) (before (number_text at.call) rest)

-- what an access tells before its bytes, and a rest
abbrev pub target_text : Target → List ℕ → List ℕ
target_text t rest =
    before (number_text t.piece) (before (number_text t.fd) (before (number_text t.file) (before (number_text t.index)
    (before (optional_text t.block) (before (number_text t.range.lo) (before (number_text t.range.hi)
    (before (direction_text t.wrote) (before (way_text t.way) rest))))))))

-- its numbers are in their ranges
abbrev pub IsTarget : Target → Type 0
IsTarget t =
    (t.piece < PIECES) × (t.fd < DESCRIPTORS) × (t.file < FILES) × (t.index ≤ LAST_INDEX)
    × IsOptional BLOCKS t.block
    × IsRange t.range

-- the text begins with what an access tells before its bytes, and this is the rest
abbrev pub HasTargetFirst : List ℕ → Target → List ℕ → Type 0
HasTargetFirst text t rest = IsTarget t × (text ≡ target_text t rest)

-- the text does not begin so
abbrev pub HasNoTargetFirst : List ℕ → Type 0
HasNoTargetFirst text = (t : Target) (rest : List ℕ) → IsTarget t → text ≢ target_text t rest

-- the entry of this call and this word that has these fields was read, or there is none
abbrev pub ReadsFields : At → Word → List ℕ → Option Entry → Type 0
ReadsFields at word text result =
    MatchOption result ((e : Entry) → word_of e ≡ word → IsInRange e → text ≢ fields_text e)
    (λ e. (at_of e ≡ at) × (word_of e ≡ word) × IsInRange e × (text ≡ fields_text e))

-- the reason has numbers
abbrev pub HasNumbers : Reason → Type 0
HasNumbers (Denied rule) = Unit {0}
HasNumbers (OpenBy process fd) = Unit {0}
HasNumbers (KernelOpen process) = Unit {0}
HasNumbers reason = ⊥

-- the reason has none
abbrev pub HasNoNumbers : Reason → Type 0
HasNoNumbers (Denied rule) = ⊥
HasNoNumbers (OpenBy process fd) = ⊥
HasNoNumbers (KernelOpen process) = ⊥
HasNoNumbers reason = Unit {0}

-- the line is that of an entry
abbrev pub HasReading : List ℕ → Type 0
HasReading line = (e : Entry) × IsEntry e × (line ≡ entry_text e)

-- the text does not begin with the header and LF, and the number is 1
pub record IsBadHeader (text : List ℕ) (number : ℕ) : Type 0 where
  pub number_is : number ≡ 1
  pub no_header : (rest : List ℕ) → text ≢ header ++ LF ∷ rest

-- after the header and good lines comes a line, of this number, that is not ended or has no reading
pub record IsBadLine (text : List ℕ) (number : ℕ) : Type 0 where
  pub good : List Entry
  pub are_entries : AreEntries good
  pub line : List ℕ
  pub ended : Bool
  pub rest : List ℕ
  pub one_line : has_byte LF line ≡ false
  pub some : ended ≡ false → line ≢ []
  pub follows : text ≡ journal_text good ++ from_line line ended rest
  pub number_is : number ≡ length good + 2
  pub broken : (ended ≡ false) ⊎ ¬ HasReading line

-- this is the number of the first line that has no reading
abbrev pub IsBadJournal : List ℕ → ℕ → Type 0
IsBadJournal text number = IsBadHeader text number ⊎ IsBadLine text number

-- why a journal was not read: a bad line, or want of memory
abbrev pub RefusesJournal : List ℕ → JournalError → Type 0
RefusesJournal text (BadJournal line) = IsBadJournal text line
RefusesJournal text OutOfMemory = Unit {0}

-- a line begins at this place
abbrev pub BeginsLine : List ℕ → ℕ → Type 0
BeginsLine text place = (place ≡ 0) ⊎ (slice_index text (place - 1) ≡ LF)

-- the header stands at this place, where a line begins, and the line ends with LF or with the text
pub record IsHeaderAt (text : List ℕ) (place : ℕ) : Type 0 where
  pub within : place < length text
  pub ended : Bool
  pub rest : List ℕ
  pub begins : BeginsLine text place
  pub is_header : drop place text ≡ from_line header ended rest

-- the first place where the header stands, or the length where it stands nowhere
pub record IsAfterReport (text : List ℕ) (place : ℕ) : Type 0 where
  pub found : (place ≡ length text) ⊎ IsHeaderAt text place
  pub first : (p : ℕ) → p < place → ¬ IsHeaderAt text p
