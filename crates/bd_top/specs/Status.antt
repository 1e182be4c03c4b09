-- The exit code and the line of each status.
use Rattle.std.specs.Prelude.{ℕ, List, [], ◌++◌, codes}
use Rattle.bd_blocks.specs.Texts.{number_text}
use Rattle.bd_top.specs.declared.status.Status.{Status}
use Rattle.bd_top.specs.declared.status.Status.TheVariants.{Done, Usage, ReadFault, WriteFault, BadImage, BadScript, OutOfMemory, BadJournal, NotLegal, Unfinished}
use Rattle.bd_top.specs.declared.status.To.TheVariants.{Out, Disk}
use Rattle.bd_top.specs.declared.status.Which.TheVariants.{Image, Script, Journal}

-- the exit code of each status
abbrev pub code_of : Status → ℕ
code_of Done = 0
code_of Usage = 2
code_of (ReadFault which) = 3
code_of (WriteFault to) = 4
code_of (BadImage rule place) = 5
code_of (BadScript line rule) = 6
code_of OutOfMemory = 7
code_of (BadJournal line) = 8
code_of (NotLegal entry rule) = 9
code_of (Unfinished process call) = 10

-- the line that tells which rule an image breaks, and where
abbrev pub bad_image_text : ℕ → ℕ → List ℕ
bad_image_text rule place = codes "bypassd: bad image: rule " ++ number_text rule ++ codes " at " ++ number_text place

-- the line that tells which rule a script breaks, and in which line
abbrev pub bad_script_text : ℕ → ℕ → List ℕ
bad_script_text line rule =
    codes "bypassd: bad script: rule " ++ number_text rule ++ codes " at line " ++ number_text line

-- the line that tells which line of a journal has no reading
abbrev pub bad_journal_text : ℕ → List ℕ
bad_journal_text line = codes "bypassd: bad journal: line " ++ number_text line

-- the line that tells which entry of a journal breaks which rule
abbrev pub not_legal_text : ℕ → ℕ → List ℕ
not_legal_text entry rule =
    codes "bypassd: not legal: entry " ++ number_text entry ++ codes " rule " ++ number_text rule

-- the line that tells which call is not finished
abbrev pub unfinished_text : ℕ → ℕ → List ℕ
unfinished_text process call =
    codes "bypassd: unfinished: process " ++ number_text process ++ codes " call " ++ number_text call

-- the line that tells a status, without its end
abbrev pub fault_text_of : Status → List ℕ
fault_text_of Done = []
fault_text_of Usage = codes "bypassd: usage"
fault_text_of (ReadFault Image) = codes "bypassd: read fault: image"
fault_text_of (ReadFault Script) = codes "bypassd: read fault: script"
fault_text_of (ReadFault Journal) = codes "bypassd: read fault: journal"
fault_text_of (WriteFault Out) = codes "bypassd: write fault: out"
fault_text_of (WriteFault Disk) = codes "bypassd: write fault: disk"
fault_text_of (BadImage rule place) = bad_image_text rule place
fault_text_of (BadScript line rule) = bad_script_text line rule
fault_text_of OutOfMemory = codes "bypassd: out of memory"
fault_text_of (BadJournal line) = bad_journal_text line
fault_text_of (NotLegal entry rule) = not_legal_text entry rule
fault_text_of (Unfinished process call) = unfinished_text process call
