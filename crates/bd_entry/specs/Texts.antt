-- The text of a journal: its lines, and what stands in each.
use Rattle.std.specs.Prelude.{ℕ, Option, List, [], ◌∷◌, ◌++◌, codes}
use Rattle.bd_base.specs.Bounds.{Bounds}
use Rattle.bd_base.specs.declared.journal.At.{At}
use Rattle.bd_base.specs.declared.journal.Found.{Found}
use Rattle.bd_base.specs.declared.journal.Found.TheVariants.{NoDirectory, NoRight, NoEntry, Beyond}
use Rattle.bd_base.specs.declared.reason.Reason.{Reason}
use Rattle.bd_base.specs.declared.reason.Reason.TheVariants.{NoFile, Exists, Denied, Inodes, NoSpace, Extents, TooBig, OpenBy, BadFd, ReadOnly, FdsFull, KernelOpen}
use Rattle.bd_blocks.specs.Runs.{runs_text}
use Rattle.bd_blocks.specs.Texts.{before, number_text, optional_text}
use Rattle.bd_blocks.specs.Words.{direction_text, mode_and_how_text, way_text}
use Rattle.bd_blocks.specs.declared.text.TheConstants.{LF}
use Rattle.bd_entry.specs.Calls.{at_of}
use Rattle.bd_entry.specs.declared.entry.Entry.{Entry}
use Rattle.bd_entry.specs.declared.entry.Entry.TheVariants.{Opened, Created, Attached, Mapped, Cleared, Detached, Access, Missed, Extended, Released, Sized, SizeRead, Closed, Unlinked, Refused}
use Rattle.bd_entry.specs.declared.words.Word.{Word}
use Rattle.bd_entry.specs.declared.words.Word.TheVariants as word

-- how many bytes of a block belong to the file
abbrev pub beyond_text : ℕ → List ℕ
beyond_text bytes = before (codes "beyond") (number_text bytes)

-- what a walk found
abbrev pub found_text : Found → List ℕ
found_text NoDirectory = codes "no-directory"
found_text NoRight = codes "no-right"
found_text NoEntry = codes "no-entry"
found_text (Beyond bytes) = beyond_text bytes

-- why a call is refused
abbrev pub reason_text : Reason → List ℕ
reason_text NoFile = codes "no-file"
reason_text Exists = codes "exists"
reason_text (Denied rule) = before (codes "denied") (number_text rule)
reason_text Inodes = codes "inodes"
reason_text NoSpace = codes "no-space"
reason_text Extents = codes "extents"
reason_text TooBig = codes "too-big"
reason_text (OpenBy process fd) = before (codes "open-by") (before (number_text process) (number_text fd))
reason_text BadFd = codes "bad-fd"
reason_text ReadOnly = codes "read-only"
reason_text FdsFull = codes "fds-full"
reason_text (KernelOpen process) = before (codes "kernel-open") (number_text process)

-- what an entry is about
abbrev pub word_of : Entry → Word
word_of (Opened at file fd mode how) = word.Opened
word_of (Created at file name perms) = word.Created
word_of (Attached at fd part) = word.Attached
word_of (Mapped at fd count) = word.Mapped
word_of (Cleared at owner fd part) = word.Cleared
word_of (Detached at owner fd part) = word.Detached
word_of (Access at piece fd file index block range wrote way bytes) = word.Access
word_of (Missed at piece found) = word.Missed
word_of (Extended at file to block) = word.Extended
word_of (Released at file index block) = word.Released
word_of (Sized at fd size) = word.Sized
word_of (SizeRead at fd size) = word.Size
word_of (Closed at fd) = word.Closed
word_of (Unlinked at file) = word.Unlinked
word_of (Refused at piece reason) = word.Refused

-- the first word after the call
abbrev pub word_text : Word → List ℕ
word_text word.Opened = codes "opened"
word_text word.Created = codes "created"
word_text word.Attached = codes "attached"
word_text word.Mapped = codes "mapped"
word_text word.Cleared = codes "cleared"
word_text word.Detached = codes "detached"
word_text word.Access = codes "access"
word_text word.Missed = codes "missed"
word_text word.Extended = codes "extended"
word_text word.Released = codes "released"
word_text word.Sized = codes "sized"
word_text word.Size = codes "size"
word_text word.Closed = codes "closed"
word_text word.Unlinked = codes "unlinked"
word_text word.Refused = codes "refused"

-- the index, the block and the range of an access
abbrev pub place_text : ℕ → Option ℕ → Bounds → List ℕ
place_text index block range =
    before (number_text index) (before (optional_text block) (before (number_text range.lo) (number_text range.hi)))

-- the fields after the word
abbrev pub fields_text : Entry → List ℕ
fields_text (Opened at file fd mode how) =
    before (number_text file) (before (number_text fd) (mode_and_how_text (mode, how)))
fields_text (Created at file name perms) = before (number_text file) (before name (number_text perms))
fields_text (Attached at fd part) = before (number_text fd) (number_text part)
fields_text (Mapped at fd count) = before (number_text fd) (number_text count)
fields_text (Cleared at owner fd part) = before (number_text owner) (before (number_text fd) (number_text part))
fields_text (Detached at owner fd part) = before (number_text owner) (before (number_text fd) (number_text part))
fields_text (Access at piece fd file index block range wrote way bytes) =
    before (number_text piece) (before (number_text fd) (before (number_text file) (before (number_text index)
    (before (optional_text block) (before (number_text range.lo) (before (number_text range.hi)
    (before (direction_text wrote) (before (way_text way) (runs_text bytes)))))))))
fields_text (Missed at piece found) = before (number_text piece) (found_text found)
fields_text (Extended at file to block) = before (number_text file) (before (number_text to) (optional_text block))
fields_text (Released at file index block) = before (number_text file) (before (number_text index) (number_text block))
fields_text (Sized at fd size) = before (number_text fd) (number_text size)
fields_text (SizeRead at fd size) = before (number_text fd) (number_text size)
fields_text (Closed at fd) = number_text fd
fields_text (Unlinked at file) = number_text file
fields_text (Refused at piece reason) = before (optional_text piece) (reason_text reason)

-- the fields after the word and before the last, each with the space after it
abbrev pub leading_text : Entry → List ℕ
leading_text (Opened at file fd mode how) = before (number_text file) (before (number_text fd) [])
leading_text (Created at file name perms) = before (number_text file) (before name [])
leading_text (Attached at fd part) = before (number_text fd) []
leading_text (Mapped at fd count) = before (number_text fd) []
leading_text (Cleared at owner fd part) = before (number_text owner) (before (number_text fd) [])
leading_text (Detached at owner fd part) = before (number_text owner) (before (number_text fd) [])
leading_text (Access at piece fd file index block range wrote way bytes) =
    before (number_text piece) (before (number_text fd) (before (number_text file) (before (number_text index)
    (before (optional_text block) (before (number_text range.lo) (before (number_text range.hi)
    (before (direction_text wrote) (before (way_text way) []))))))))
leading_text (Missed at piece found) = before (number_text piece) []
leading_text (Extended at file to block) = before (number_text file) (before (number_text to) [])
leading_text (Released at file index block) = before (number_text file) (before (number_text index) [])
leading_text (Sized at fd size) = before (number_text fd) []
leading_text (SizeRead at fd size) = before (number_text fd) []
leading_text (Closed at fd) = []
leading_text (Unlinked at file) = []
leading_text (Refused at piece reason) = before (optional_text piece) []

-- the last field; of an open, the mode and the way
abbrev pub last_text : Entry → List ℕ
last_text (Opened at file fd mode how) = mode_and_how_text (mode, how)
last_text (Created at file name perms) = number_text perms
last_text (Attached at fd part) = number_text part
last_text (Mapped at fd count) = number_text count
last_text (Cleared at owner fd part) = number_text part
last_text (Detached at owner fd part) = number_text part
last_text (Access at piece fd file index block range wrote way bytes) = runs_text bytes
last_text (Missed at piece found) = found_text found
last_text (Extended at file to block) = optional_text block
last_text (Released at file index block) = number_text block
last_text (Sized at fd size) = number_text size
last_text (SizeRead at fd size) = number_text size
last_text (Closed at fd) = number_text fd
last_text (Unlinked at file) = number_text file
last_text (Refused at piece reason) = reason_text reason

-- a line without its LF: the process, the call, the word, and the fields
abbrev pub line_text : At → List ℕ → List ℕ → List ℕ
line_text at word fields = before (number_text at.process) (before (number_text at.call) (before word fields))

-- the line of an entry, without its LF
abbrev pub entry_text : Entry → List ℕ
entry_text e = line_text (at_of e) (word_text (word_of e)) (fields_text e)

-- lines, each ended by LF
abbrev pub lines_text : List Entry → List ℕ
lines_text [] = []
lines_text (e ∷ es) = entry_text e ++ LF ∷ lines_text es

-- the first line of a journal, without its LF
abbrev pub header : List ℕ
header = codes "bypassd-journal 1"

-- the text of a journal
abbrev pub journal_text : List Entry → List ℕ
journal_text entries = header ++ LF ∷ lines_text entries
