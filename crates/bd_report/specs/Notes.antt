-- Notes on the entries of calls, from which their replies are made.
use Rattle.std.specs.Prelude.{◌≡◌, ℕ, ◌+◌, ◌*◌, ◌<◌, All, IfSome, cond, Bool, true, false, Option, None, Some, List, length, get_or, slice_get}
use Rattle.std.specs.Option.{option_copied, option_or}
use Rattle.bd_base.specs.declared.journal.At.{At}
use Rattle.bd_base.specs.declared.limits.TheConstants.{CALLS}
use Rattle.bd_base.specs.declared.script.Call.{Call}
use Rattle.bd_base.specs.declared.script.Call.TheVariants.{Read, Write}
use Rattle.bd_base.specs.declared.script.Script.{Script}
use Rattle.bd_entry.specs.declared.entry.Entry.{Entry}
use Rattle.bd_entry.specs.declared.entry.Entry.TheVariants.{Access, Refused}
use Rattle.bd_entry.specs.Calls.{call_at, entries_of, is_ended_by}
use Rattle.bd_pieces.specs.declared.piece_list.TheConstants.{MOST_PIECES}
use Rattle.bd_report.specs.declared.notes.Notes.{Notes}
use Rattle.bd_report.specs.Replies.{answer_of, end_of}

-- ---- one call

-- whether a call may end without an entry that ends it alone
abbrev pub ends_by_pieces : Call → Bool
ends_by_pieces (Read fd off len) = true
ends_by_pieces (Write fd off bytes) = true
ends_by_pieces call = false

-- the piece that the entry answers
abbrev pub answered_piece : Entry → Option ℕ
answered_piece (Access at piece fd file index block range wrote way bytes) = Some piece
answered_piece (Refused at piece reason) = piece
answered_piece entry = None

-- the entry so far, or this one where there is none and it passes
abbrev pub first_of : Option Entry → Bool → Entry → Option Entry
first_of so_far passes entry = option_or so_far (cond passes (Some entry) None)

-- the notes are the end of the call and the answers of its pieces, as these entries of it tell them
pub record AreNotesOf (call : Call) (entries : List Entry) (notes : Notes) : Type 0 where
  pub end : option_copied notes.end ≡ end_of call entries
  pub room : length notes.answers ≡ MOST_PIECES
  pub answers : (number : ℕ) → number < MOST_PIECES →
      option_copied (get_or notes.answers number None) ≡ answer_of entries number

-- these are notes on entries that end the call
pub record IsOfEnded (call : Call) (notes : Notes) : Type 0 where
  pub entries : List Entry
  pub tells : AreNotesOf call entries notes
  pub ended : is_ended_by call entries ≡ true

-- each entry that answers a piece answers one of few
abbrev pub AreFew : List Entry → Type 0
AreFew journal = All (λ entry. IfSome (answered_piece entry) (λ piece. piece < MOST_PIECES)) journal

-- ---- all calls

-- the place of a call in a table with room for all calls that each process may have
abbrev pub slot_of : At → ℕ
slot_of at = CALLS * at.process + at.call

-- the table has the notes on each call of the script
pub record AreNotesOfAll (script : Script) (journal : List Entry) (table : List Notes) : Type 0 where
  pub room : length table ≡ CALLS * length script.processes
  pub tells : (at : At) (call : Call) (notes : Notes) → call_at script at ≡ Some call →
      slice_get table (slot_of at) ≡ Some notes → AreNotesOf call (entries_of at journal) notes
