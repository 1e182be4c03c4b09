-- How large the numbers are that a verification tells: calls, pieces and lines.
use Rattle.std.proofs.Common.{◌≡◌, ◌∙◌, ℕ, ◌+◌, ◌-◌, ◌*◌, ◌/◌, ◌≤◌, Bool, true, false, nat_eq, cond, List, All, [], ◌∷◌, ◌++◌, length, arith, ap, inl, inr}
use Rattle.std.specs.Prelude.{sum_by}
use Rattle.std.proofs.lemmas.List.{length-append}
use Rattle.std.proofs.lemmas.List.Elements.{All-weaker}
use Rattle.std.proofs.lemmas.List.FromFn.{length-map-range_with_len}
use Rattle.std.proofs.lemmas.List.Sums.{count_by-le-length, sum_by-le}
use Rattle.bd_base.specs.declared.limits.TheConstants.{BLOCK_SIZE, CALLS, CALL_BYTES}
use Rattle.bd_base.specs.declared.script.Call.{Call}
use Rattle.bd_base.specs.declared.script.Call.TheVariants.{Enter, Create, Read, Write, Truncate, Unlink, Size, Map, Close, RawRead, RawWrite}
use Rattle.bd_base.specs.declared.script.Process.{Process}
use Rattle.bd_base.specs.Pieces.{piece_at, pieces}
use Rattle.bd_base.specs.Scripts.{IsCall, IsProcess}
use Rattle.bd_blocks.specs.declared.text.TheConstants.{LF}
use Rattle.bd_entry.specs.declared.entry.Entry.{Entry}
use Rattle.bd_entry.specs.Calls.{pieces_of_call}
use Rattle.bd_blocks.specs.Texts.{from_line}
use Rattle.bd_entry.specs.Reading.{IsBadJournal}
use Rattle.bd_entry.specs.Texts.{entry_text, header, journal_text, lines_text}
use Rattle.bd_top.specs.Verify.{is_ended, line_count, pieces_in}

-- ---- pieces

few_in_range : (off len : ℕ) → 1 ≤ len → len ≤ CALL_BYTES → length (pieces off len) ≤ 5
few_in_range off len some most =
    let first = off / BLOCK_SIZE in
    let last = (off + len - 1) / BLOCK_SIZE in
    omega (arith, some, most, length-map-range_with_len (piece_at off len) first (last + 1 - first))

-- a call has at most five pieces
few_pieces : (call : Call) → IsCall call → length (pieces_of_call call) ≤ 5
few_pieces (Read fd off len) is = few_in_range off len is.2 is.3
few_pieces (Write fd off bytes) is = few_in_range off (length bytes) is.2.1 is.2.2
few_pieces (RawRead address range) is = omega arith
few_pieces (RawWrite address lo bytes) is = omega arith
few_pieces other is = omega arith

few_pieces_all : (calls : List Call) → All IsCall calls → All (λ call. length (pieces_of_call call) ≤ 5) calls
few_pieces_all calls all = All-weaker IsCall (λ call. length (pieces_of_call call) ≤ 5) few_pieces calls all

-- the calls of a process have at most five each
pub few_in_process : (p : Process) → IsProcess p → pieces_in p ≤ CALLS * 5
few_in_process p is =
    let few = sum_by-le (λ (call : Call). length (pieces_of_call call)) 5 p.calls (few_pieces_all p.calls is.calls) in
    omega (arith, few, is.count)

-- ---- lines

-- a journal has a line for each entry
pub few_entries : (entries : List Entry) → length entries ≤ length (lines_text entries)
few_entries [] = omega arith
few_entries (entry ∷ entries) = omega (arith, few_entries entries, length-append (entry_text entry) (LF ∷ lines_text entries))

-- a text has at most one line more than bytes
pub line_count-within : (text : List ℕ) → line_count text ≤ length text + 1
line_count-within text = omega (arith, count_by-le-length (nat_eq LF) text, at_most_one (is_ended text))
  where
    at_most_one : (ended : Bool) → cond ended 0 1 ≤ 1
    at_most_one true = omega arith
    at_most_one false = omega arith

-- so does the text of a journal, and the bad line of a text is among these or the next
pub bad_line-within : (text : List ℕ) (line : ℕ) → IsBadJournal text line → line ≤ length text + 2
bad_line-within text line (inl bad) = omega (arith, bad.number_is)
bad_line-within text line (inr bad) =
    let rest = from_line bad.line bad.ended bad.rest in
    let all = ap length bad.follows ∙ length-append (journal_text bad.good) rest in
    let front = length-append header (LF ∷ lines_text bad.good) in
    omega (arith, bad.number_is, few_entries bad.good, all, front)
