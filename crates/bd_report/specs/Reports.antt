-- The report of a run: a reply for each call, and the totals.
use Rattle.std.specs.Prelude.{ℕ, Bool, true, false, List, [], ◌∷◌, ◌++◌, length, codes, count_by}
use Rattle.std.specs.List.{flat_map, range_with_len}
use Rattle.bd_base.specs.declared.journal.At.{At}
use Rattle.bd_base.specs.declared.journal.Way.TheVariants.{Direct}
use Rattle.bd_base.specs.declared.script.Script.{Script}
use Rattle.bd_blocks.specs.declared.text.TheConstants.{LF}
use Rattle.bd_blocks.specs.Texts.{before, number_text}
use Rattle.bd_entry.specs.declared.entry.Entry.{Entry}
use Rattle.bd_entry.specs.declared.entry.Entry.TheVariants.{Access, Detached, Missed}
use Rattle.bd_entry.specs.Calls.{calls_of}
use Rattle.bd_report.specs.Replies.{reply_text}

-- ---- replies

-- the line of a call: its number and its reply
abbrev pub call_line : Script → List Entry → ℕ → ℕ → List ℕ
call_line script journal process number =
    let at : At = record { process = process; call = number } in
    before (number_text number) (reply_text script journal at ++ LF ∷ [])

-- the lines of a process: its number, and its calls in their order
abbrev pub process_lines : Script → List Entry → ℕ → List ℕ
process_lines script journal process =
    before (codes "proc") (number_text process ++ LF ∷ [])
    ++ flat_map (call_line script journal process) (range_with_len 0 (length (calls_of script process)))

-- ---- totals

-- whether the entry is an access from the device
abbrev pub is_direct : Entry → Bool
is_direct (Access at piece fd file index block range wrote Direct bytes) = true
is_direct entry = false

-- whether the entry is an access by the kernel
abbrev pub is_by_kernel : Entry → Bool
is_by_kernel (Access at piece fd file index block range wrote Direct bytes) = false
is_by_kernel (Access at piece fd file index block range wrote way bytes) = true
is_by_kernel entry = false

-- whether the entry tells of a walk that found no translation
abbrev pub is_miss : Entry → Bool
is_miss (Missed at piece found) = true
is_miss entry = false

-- whether the entry tells of a right that was taken away
abbrev pub is_detach : Entry → Bool
is_detach (Detached at owner fd part) = true
is_detach entry = false

-- a number after its name
abbrev pub total_text : List ℕ → ℕ → List ℕ
total_text name number = name ++ number_text number

-- the last line, with these numbers
abbrev pub totals_line : ℕ → ℕ → ℕ → ℕ → List ℕ
totals_line direct kernel missed detached =
    total_text (codes "total direct ") direct ++ total_text (codes " kernel ") kernel
    ++ total_text (codes " missed ") missed ++ total_text (codes " detached ") detached ++ LF ∷ []

-- the last line of a report: how many entries of each kind the journal has
abbrev pub total_line : List Entry → List ℕ
total_line journal =
    totals_line (count_by is_direct journal) (count_by is_by_kernel journal) (count_by is_miss journal)
    (count_by is_detach journal)

-- ---- the report

-- the report of a run of the script with this journal
abbrev pub report_text : Script → List Entry → List ℕ
report_text script journal =
    codes "bypassd-report 1" ++ LF ∷ []
    ++ flat_map (process_lines script journal) (range_with_len 0 (length script.processes))
    ++ total_line journal
