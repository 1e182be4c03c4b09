-- What contracts see of the cache: its lines by their numbers, None where a line is empty.
use Rattle.std.specs.Prelude.{ℕ, ◌+◌, ◌%◌, Bool, ◌&&◌, nat_eq, nat_le, cond, Option, None, Some, List}
use Rattle.std.proofs.Common.{set, get_or}
use Rattle.bd_base.specs.declared.key.Cell.{Cell}
use Rattle.bd_base.specs.declared.key.Key.{Key}
use Rattle.bd_base.specs.Keys.{same_key}
use Rattle.bd_lines.specs.declared.lines.Line.{Line}
use Rattle.bd_lines.specs.declared.lines.TheConstants.{LINES}

-- the lines by their numbers
abbrev pub LineList : Type 0
LineList = List (Option Line)

-- what line number c holds
abbrev pub line_at : LineList → ℕ → Option Line
line_at lines c = get_or lines c None

-- the line of the block of this index, reached through this key
abbrev pub line_of : Key → ℕ → ℕ
line_of key index = (key.process + key.fd + index) % LINES

-- whether the line is of this key
abbrev pub is_of_key : Key → Line → Bool
is_of_key key line = same_key line.key key

-- whether the line serves the first hi bytes of the block of this index under this key
abbrev pub serves : Key → ℕ → ℕ → Line → Bool
serves key index hi line = is_of_key key line && (nat_eq line.index index && nat_le hi line.cell.limit)

-- the cell of a line that serves
abbrev pub served : Key → ℕ → ℕ → Option Line → Option Cell
served key index hi None = None
served key index hi (Some line) = cond (serves key index hi line) (Some line.cell) None

-- the cell with which a look hits, None where it misses
abbrev pub hit : LineList → Key → ℕ → ℕ → Option Cell
hit lines key index hi = served key index hi (line_at lines (line_of key index))

-- these lines with that translation in the line of its address
abbrev pub filled : LineList → Key → ℕ → Cell → LineList
filled lines key index cell = set lines (line_of key index) (Some (record { key = key; index = index; cell = cell }))

-- what is left in a line that is emptied where it is of this key
abbrev pub swept_line : Key → Option Line → Option Line
swept_line key None = None
swept_line key (Some line) = cond (is_of_key key line) None (Some line)

-- these lines with line c emptied exactly where it is of this key
abbrev pub swept : LineList → ℕ → Key → LineList
swept lines c key = set lines c (swept_line key (line_at lines c))
