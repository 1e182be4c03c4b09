-- The calls of a script, which entries belong to each, and which end one.
use Rattle.std.specs.Prelude.{ℕ, ◌+◌, ◌-◌, ◌*◌, ◌/◌, ◌%◌, nat_eq, Bool, true, false, ◌&&◌, ◌||◌, List, [], ◌∷◌, filter, length, slice_get, slice_range, Option, None, Some}
use Rattle.std.specs.Option.{option_map_or}
use Rattle.std.specs.List.{list_any, list_all, range_with_len}
use Rattle.bd_base.specs.declared.limits.TheConstants.{BLOCK_SIZE, FILE_BLOCKS}
use Rattle.bd_base.specs.declared.script.Call.{Call}
use Rattle.bd_base.specs.declared.script.Call.TheVariants.{Enter, Create, Read, Write, Truncate, Unlink, Size, Map, Close, RawRead, RawWrite}
use Rattle.bd_base.specs.declared.script.How.TheVariants.{Plain, Direct}
use Rattle.bd_base.specs.declared.script.Process.{Process}
use Rattle.bd_base.specs.declared.script.Script.{Script}
use Rattle.bd_base.specs.declared.journal.At.{At}
use Rattle.bd_base.specs.Pieces.{Piece, pieces}
use Rattle.bd_entry.specs.declared.entry.Entry.{Entry}
use Rattle.bd_entry.specs.declared.entry.Entry.TheVariants.{Access, Attached, Cleared, Closed, Created, Detached, Extended, Mapped, Missed, Opened, Refused, Released, SizeRead, Sized, Unlinked}

-- ---- calls and entries of a script

-- the calls of a process, none where there is no such process
abbrev pub calls_of : Script → ℕ → List Call
calls_of script process = option_map_or (λ (p : Process). p.calls) (slice_get script.processes process) []

-- the call of this number of this process
abbrev pub call_at : Script → At → Option Call
call_at script at = slice_get (calls_of script at.process) at.call

-- the call that an entry belongs to
abbrev pub at_of : Entry → At
at_of (Opened at file fd mode how) = at
at_of (Created at file name perms) = at
at_of (Attached at fd part) = at
at_of (Mapped at fd count) = at
at_of (Cleared at owner fd part) = at
at_of (Detached at owner fd part) = at
at_of (Access at piece fd file index block range wrote way bytes) = at
at_of (Missed at piece found) = at
at_of (Extended at file to block) = at
at_of (Released at file index block) = at
at_of (Sized at fd size) = at
at_of (SizeRead at fd size) = at
at_of (Closed at fd) = at
at_of (Unlinked at file) = at
at_of (Refused at piece reason) = at

-- whether both are the same call of the same process
abbrev pub same_call : At → At → Bool
same_call a b = nat_eq a.process b.process && nat_eq a.call b.call

-- the entries of a call in a journal, in order
abbrev pub entries_of : At → List Entry → List Entry
entries_of at journal = filter (λ entry. same_call (at_of entry) at) journal

-- ---- what a call asks for

-- where an entry stands: its call, which call of which process that is, and the entries of that call before it
pub record Place : Type 0 where
  pub call : Call
  pub at : At
  pub before : List Entry

-- the descriptor of the address of a raw command: an address is that of a block of a descriptor's file
abbrev pub fd_of_address : ℕ → ℕ
fd_of_address address = address / FILE_BLOCKS

-- the piece of a raw command: the bytes from lo to hi of the block of its address
abbrev pub raw_piece : ℕ → ℕ → ℕ → Piece
raw_piece address lo hi = record { index = address % FILE_BLOCKS; range = record { lo = lo; hi = hi } }

-- the pieces of a call in order: those of its byte range, the one of a raw command, and none of another call
abbrev pub pieces_of_call : Call → List Piece
pieces_of_call (Read fd off len) = pieces off len
pieces_of_call (Write fd off bytes) = pieces off (length bytes)
pieces_of_call (RawRead address range) = raw_piece address range.lo range.hi ∷ []
pieces_of_call (RawWrite address lo bytes) = raw_piece address lo (lo + length bytes) ∷ []
pieces_of_call call = []

-- the piece of this number
abbrev pub piece_of_call : Call → ℕ → Option Piece
piece_of_call call number = slice_get (pieces_of_call call) number

-- the place in its file where a piece ends
abbrev pub piece_end : Piece → ℕ
piece_end piece = BLOCK_SIZE * piece.index + piece.range.hi

-- whether the call writes bytes
abbrev pub does_write : Call → Bool
does_write (Write fd off bytes) = true
does_write (RawWrite address lo bytes) = true
does_write call = false

-- whether the call is a raw command
abbrev pub is_raw : Call → Bool
is_raw (RawRead address range) = true
is_raw (RawWrite address lo bytes) = true
is_raw call = false

-- the bytes that the call writes by a piece, none where it writes none
abbrev pub bytes_for_piece : Call → Piece → List ℕ
bytes_for_piece (Write fd off bytes) piece =
    let start = BLOCK_SIZE * piece.index + piece.range.lo - off in
    slice_range bytes start (start + (piece.range.hi - piece.range.lo))
bytes_for_piece (RawWrite address lo bytes) piece = bytes
bytes_for_piece call piece = []

-- the descriptor that the call names
abbrev pub named_fd : Call → Option ℕ
named_fd (Enter name mode how) = None
named_fd (Create name perms) = None
named_fd (Read fd off len) = Some fd
named_fd (Write fd off bytes) = Some fd
named_fd (Truncate fd size) = Some fd
named_fd (Unlink name) = None
named_fd (Size fd) = Some fd
named_fd (Map fd) = Some fd
named_fd (Close fd) = Some fd
named_fd (RawRead address range) = None
named_fd (RawWrite address lo bytes) = None

-- the descriptor number of the first Opened among the entries
abbrev pub opened_fd : List Entry → Option ℕ
opened_fd [] = None
opened_fd (Opened at file fd mode how ∷ entries) = Some fd
opened_fd (entry ∷ entries) = opened_fd entries

-- the descriptor of a call with these entries so far: the one that an open opened, that of a raw command's address, or
-- the one named
abbrev pub fd_of_call : Call → List Entry → Option ℕ
fd_of_call (Enter name mode how) entries = opened_fd entries
fd_of_call (RawRead address range) entries = Some (fd_of_address address)
fd_of_call (RawWrite address lo bytes) entries = Some (fd_of_address address)
fd_of_call call entries = named_fd call

-- the descriptor of the call at this place
abbrev pub fd_of : Place → Option ℕ
fd_of p = fd_of_call p.call p.before

-- ---- what stands among the entries of a call

-- whether the entry tells of an open that began
abbrev pub is_opened : Entry → Bool
is_opened (Opened at file fd mode how) = true
is_opened entry = false

-- whether the entry is the Access or the Refused of this piece
abbrev pub is_answer_of : ℕ → Entry → Bool
is_answer_of number (Access at piece fd file index block range wrote way bytes) = nat_eq piece number
is_answer_of number (Refused at (Some piece) reason) = nat_eq piece number
is_answer_of number entry = false

-- whether the piece of this number has its Access or Refused
abbrev pub is_answered : ℕ → List Entry → Bool
is_answered number entries = list_any (is_answer_of number) entries

-- whether the entry is the Missed of this piece
abbrev pub is_miss_of : ℕ → Entry → Bool
is_miss_of number (Missed at piece found) = nat_eq piece number
is_miss_of number entry = false

-- whether the piece of this number has its Missed
abbrev pub has_missed : ℕ → List Entry → Bool
has_missed number entries = list_any (is_miss_of number) entries

-- whether the entry clears the right of this process's descriptor on this part
abbrev pub is_clear_of : ℕ → ℕ → ℕ → Entry → Bool
is_clear_of process number place (Cleared at owner fd part) =
    nat_eq owner process && nat_eq fd number && nat_eq part place
is_clear_of process number place entry = false

-- whether the right of this process's descriptor on this part has its Cleared here
abbrev pub has_cleared : ℕ → ℕ → ℕ → List Entry → Bool
has_cleared process number place entries = list_any (is_clear_of process number place) entries

-- ---- which entries a call makes, and which end it

-- whether entries of this kind belong to the call; that a whole call is refused belongs to each
abbrev pub is_made_by : Call → Entry → Bool
is_made_by call (Refused at None reason) = true
is_made_by (Enter name mode Direct) (Opened at file fd entry_mode entry_how) = true
is_made_by (Enter name mode Direct) (Attached at fd part) = true
is_made_by (Enter name mode Direct) (Mapped at fd count) = true
is_made_by (Enter name mode Plain) (Cleared at owner fd part) = true
is_made_by (Enter name mode Plain) (Detached at owner fd part) = true
is_made_by (Enter name mode Plain) (Opened at file fd entry_mode entry_how) = true
is_made_by (Create name perms) (Created at file entry_name entry_perms) = true
is_made_by (Truncate fd size) (Cleared at owner entry_fd part) = true
is_made_by (Truncate fd size) (Detached at owner entry_fd part) = true
is_made_by (Truncate fd size) (Released at file index block) = true
is_made_by (Truncate fd size) (Extended at file to block) = true
is_made_by (Truncate fd size) (Sized at entry_fd entry_size) = true
is_made_by (Unlink name) (Released at file index block) = true
is_made_by (Unlink name) (Unlinked at file) = true
is_made_by (Size fd) (SizeRead at entry_fd size) = true
is_made_by (Map fd) (Attached at entry_fd part) = true
is_made_by (Map fd) (Mapped at entry_fd count) = true
is_made_by (Close fd) (Cleared at owner entry_fd part) = true
is_made_by (Close fd) (Detached at owner entry_fd part) = true
is_made_by (Close fd) (Closed at entry_fd) = true
is_made_by (Read fd off len) (Missed at piece found) = true
is_made_by (Read fd off len) (Access at piece entry_fd file index block range wrote way bytes) = true
is_made_by (Write fd off bytes) (Missed at piece found) = true
is_made_by (Write fd off bytes) (Access at piece entry_fd file index block range wrote way entry_bytes) = true
is_made_by (Write fd off bytes) (Extended at file to block) = true
is_made_by (Write fd off bytes) (Refused at (Some piece) reason) = true
is_made_by (RawRead address range) (Access at piece fd file index block entry_range wrote way bytes) = true
is_made_by (RawRead address range) (Missed at piece found) = true
is_made_by (RawWrite address lo bytes) (Access at piece fd file index block range wrote way entry_bytes) = true
is_made_by (RawWrite address lo bytes) (Missed at piece found) = true
is_made_by call entry = false

-- whether the entry alone ends the call; that a whole call is refused ends each
abbrev pub is_end_of : Call → Entry → Bool
is_end_of call (Refused at None reason) = true
is_end_of (Enter name mode Direct) (Mapped at fd count) = true
is_end_of (Enter name mode Plain) (Opened at file fd entry_mode entry_how) = true
is_end_of (Create name perms) (Created at file entry_name entry_perms) = true
is_end_of (Truncate fd size) (Sized at entry_fd entry_size) = true
is_end_of (Unlink name) (Unlinked at file) = true
is_end_of (Size fd) (SizeRead at entry_fd size) = true
is_end_of (Map fd) (Mapped at entry_fd count) = true
is_end_of (Close fd) (Closed at entry_fd) = true
is_end_of (RawRead address range) (Access at piece fd file index block entry_range wrote way bytes) = true
is_end_of (RawRead address range) (Missed at piece found) = true
is_end_of (RawWrite address lo bytes) (Access at piece fd file index block range wrote way entry_bytes) = true
is_end_of (RawWrite address lo bytes) (Missed at piece found) = true
is_end_of call entry = false

-- whether each piece of the call has its Access or Refused
abbrev pub are_all_answered : Call → List Entry → Bool
are_all_answered call entries =
    list_all (λ number. is_answered number entries) (range_with_len 0 (length (pieces_of_call call)))

-- whether these entries of a call end it: one of them does, or each piece of a read or a write is answered
abbrev pub is_ended_by : Call → List Entry → Bool
is_ended_by (Read fd off len) entries =
    list_any (is_end_of (Read fd off len)) entries || are_all_answered (Read fd off len) entries
is_ended_by (Write fd off bytes) entries =
    list_any (is_end_of (Write fd off bytes)) entries || are_all_answered (Write fd off bytes) entries
is_ended_by call entries = list_any (is_end_of call) entries

-- whether the call is finished in the journal
abbrev pub is_finished : Script → List Entry → At → Bool
is_finished script journal at =
    option_map_or (λ call. is_ended_by call (entries_of at journal)) (call_at script at) false
