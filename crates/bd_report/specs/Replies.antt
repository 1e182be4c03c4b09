-- The text of a reply, from the call and its entries alone. Pieces are taken by their numbers, never by their places in
-- the journal.
use Rattle.std.specs.Prelude.{ℕ, Option, None, Some, List, [], ◌∷◌, length, map, codes}
use Rattle.std.specs.List.{find, range_with_len}
use Rattle.std.specs.Option.{option_map_or, option_or}
use Rattle.bd_base.specs.declared.journal.At.{At}
use Rattle.bd_base.specs.declared.reason.Reason.{Reason}
use Rattle.bd_base.specs.declared.script.Call.{Call}
use Rattle.bd_base.specs.declared.script.Call.TheVariants.{Map, RawWrite, Read, Write}
use Rattle.bd_base.specs.declared.script.Script.{Script}
use Rattle.bd_base.specs.Pieces.{Piece, pieces}
use Rattle.bd_blocks.specs.Runs.{runs_text}
use Rattle.bd_blocks.specs.Texts.{before, number_text}
use Rattle.bd_entry.specs.declared.entry.Entry.{Entry}
use Rattle.bd_entry.specs.declared.entry.Entry.TheVariants.{Access, Mapped, Missed, Opened, Refused, SizeRead}
use Rattle.bd_entry.specs.Calls.{call_at, entries_of, is_answer_of, is_end_of, pieces_of_call}
use Rattle.bd_entry.specs.Texts.{found_text, reason_text}
use Rattle.bd_pieces.specs.declared.gathering.PieceBytes.{PieceBytes}
use Rattle.bd_pieces.specs.Gathered.{gathered_bytes}

-- ---- what the entries of a call tell

-- the entry that alone ends the call, where one does
abbrev pub end_of : Call → List Entry → Option Entry
end_of call entries = find (is_end_of call) entries

-- the Access or the Refused of the piece of this number
abbrev pub answer_of : List Entry → ℕ → Option Entry
answer_of entries number = find (is_answer_of number) entries

-- the answers of the pieces of a call, in piece order
abbrev pub answers_of : Call → List Entry → List (Option Entry)
answers_of call entries = map (answer_of entries) (range_with_len 0 (length (pieces_of_call call)))

-- ---- texts

-- `ok`, and what follows it
abbrev pub ok_text : List ℕ → List ℕ
ok_text rest = before (codes "ok") rest

-- how many parts a descriptor has attached
abbrev pub mapped_text : ℕ → List ℕ
mapped_text count = before (codes "mapped") (number_text count)

-- bytes that were read: how many, and which
abbrev pub read_text : List ℕ → List ℕ
read_text bytes = ok_text (before (number_text (length bytes)) (runs_text bytes))

-- bytes that were written: how many
abbrev pub wrote_text : List ℕ → List ℕ
wrote_text bytes = ok_text (number_text (length bytes))

-- ---- a call that one entry ends

-- the reply of a call that this entry ends
abbrev pub end_text : Call → Entry → List ℕ
end_text call (Refused at piece reason) = reason_text reason
end_text call (Opened at file fd mode how) = ok_text (number_text fd)
end_text (Map named) (Mapped at fd count) = ok_text (mapped_text count)
end_text call (Mapped at fd count) = ok_text (before (number_text fd) (mapped_text count))
end_text call (SizeRead at fd size) = ok_text (number_text size)
end_text call (Missed at piece found) = before (codes "fault") (found_text found)
end_text (RawWrite address lo bytes) (Access at piece fd file index block range wrote way put) = wrote_text bytes
end_text call (Access at piece fd file index block range wrote way bytes) = read_text bytes
-- a create, a truncate, an unlink and a close tell no more
end_text call entry = codes "ok"

-- ---- a read or a write that was not refused as a whole

-- the bytes of an access
abbrev pub given_bytes : Option Entry → List ℕ
given_bytes (Some (Access at piece fd file index block range wrote way bytes)) = bytes
given_bytes answer = []

-- what the pieces gave, each with the bytes that it asked for
abbrev pub parts_of : List Piece → List (Option Entry) → List PieceBytes
parts_of (piece ∷ rest) (answer ∷ answers) =
    record { range = piece.range; bytes = given_bytes answer } ∷ parts_of rest answers
parts_of rest answers = []

-- why a piece was refused, if it was
abbrev pub piece_reason : Option Entry → Option Reason
piece_reason (Some (Refused at piece reason)) = Some reason
piece_reason answer = None

-- why the first of the pieces that were refused was
abbrev pub first_reason : List (Option Entry) → Option Reason
first_reason [] = None
first_reason (answer ∷ answers) = option_or (piece_reason answer) (first_reason answers)

-- the reply of a read or a write by the answers of its pieces
abbrev pub pieces_text : Call → List (Option Entry) → List ℕ
pieces_text (Read fd off len) answers = read_text (gathered_bytes (parts_of (pieces off len) answers))
pieces_text (Write fd off bytes) answers = option_map_or reason_text (first_reason answers) (wrote_text bytes)
-- every other call is ended by one entry
pieces_text call answers = []

-- ---- replies

-- the reply of a call by the entry that ends it, and by the answers of its pieces where none does
abbrev pub ended_text : Call → Option Entry → List (Option Entry) → List ℕ
ended_text call (Some end) answers = end_text call end
ended_text call None answers = pieces_text call answers

-- the reply of a call with these entries
abbrev pub call_text : Call → List Entry → List ℕ
call_text call entries = ended_text call (end_of call entries) (answers_of call entries)

-- the reply of the call of this process and number
abbrev pub reply_text : Script → List Entry → At → List ℕ
reply_text script journal at = option_map_or (λ call. call_text call (entries_of at journal)) (call_at script at) []
