-- Kinds of calls and of entries.
use Rattle.std.specs.Prelude.{Bool, true, false, None}
use Rattle.bd_base.specs.declared.script.Call.{Call}
use Rattle.bd_base.specs.declared.script.Call.TheVariants.{Read, Write}
use Rattle.bd_entry.specs.declared.entry.Entry.{Entry}
use Rattle.bd_entry.specs.declared.entry.Entry.TheVariants.{Access, Missed, Refused}

-- whether the entry refuses its whole call
abbrev pub is_whole_refusal : Entry → Bool
is_whole_refusal (Refused at None reason) = true
is_whole_refusal entry = false

-- whether the entry tells what became of the walk of a piece: its access, or its miss
abbrev pub is_of_piece : Entry → Bool
is_of_piece (Access at piece fd file index block range wrote way bytes) = true
is_of_piece (Missed at piece found) = true
is_of_piece entry = false

-- whether the call ends as all its pieces are answered
abbrev pub ends_by_pieces : Call → Bool
ends_by_pieces (Read fd off len) = true
ends_by_pieces (Write fd off bytes) = true
ends_by_pieces call = false
