-- What contracts see of tables for one thread, and what the tables and the kernel side are in it.
use Rattle.std.specs.Prelude.{◌≡◌, ℕ, zero, suc, ◌<◌, Option, None, Some, List, length, map}
use Rattle.std.proofs.Common.{get_or, replicate}
use Rattle.std.specs.FinMap as fin
use Rattle.std.specs.declared.cmp.Ordering.{Ordering}
use Rattle.bd_base.specs.declared.journal.Found.{Found}
use Rattle.bd_base.specs.declared.key.Cell.{Cell}
use Rattle.bd_file_table.specs.Fragments.{Book, Cells, Fragment}
use Rattle.bd_lines.specs.declared.lines.TheConstants.{LINES}
use Rattle.bd_lines.specs.Lines.{LineList}
use Rattle.bd_tables.specs.declared.request.Drained.{Drained}
use Rattle.bd_tables.specs.declared.request.Drained.TheVariants.{Yes, NotYet}
use Rattle.bd_tables.specs.declared.request.Looked.{Looked}
use Rattle.bd_tables.specs.declared.request.Looked.TheVariants.{Hit, Miss}
use Rattle.bd_tables.specs.declared.request.Walked.{Walked}
use Rattle.bd_tables.specs.declared.request.Walked.TheVariants.{Granted, Missed}
use Rattle.bd_tables.specs.declared.state.Walk.{Walk}
use Rattle.bd_tables.specs.declared.state.Walk.TheVariants.{Idle}
use Rattle.bd_tables.specs.Kernel.{KernelState}
use Rattle.bd_tables.specs.State.{CellMap, Rights, TableState}

-- by process, where the engine of a lent pass is, None where the pass lies in the tables
abbrev pub Places : Type 0
Places = List (Option Walk)

-- the right of each attached key, each pair in use with its fragment, the lines, and the passes
pub record PlainState : Type 0 where
  pub rights : Rights
  pub book : Book
  pub lines : LineList
  pub places : Places

-- the map with each value changed by f
unfoldable pub map_values : {K X Y : Type 0} {R : K → K → Ordering} → (X → Y) → fin.FinMap R X →
    fin.FinMap R Y
map_values f m = fin.from_entries (map (λ e. (e.0, f e.1)) (fin.entries m))

-- the cells of a fragment
abbrev pub its_cells : Fragment → Cells
its_cells fragment = fragment.cells

-- each pair in use with its cells
abbrev pub cells_of : Book → CellMap
cells_of book = map_values its_cells book

-- where the engine of a pass is: the pass is idle where it lies in the tables
abbrev pub walk_of : Option Walk → Walk
walk_of None = Idle
walk_of (Some walk) = walk

abbrev pub walks_of : Places → List Walk
walks_of places = map walk_of places

-- the state of the tables
abbrev pub tables_of : PlainState → TableState
tables_of plain =
    record {
      rights = plain.rights;
      cells = cells_of plain.book;
      lines = plain.lines;
      walks = walks_of plain.places;
    }

-- what the kernel side sees of them
abbrev pub kernel_of : PlainState → KernelState
kernel_of plain = record { processes = length plain.places; rights = plain.rights; book = plain.book }

-- nothing is attached or cached, and the passes of all processes lie in the tables
abbrev pub new_plain : ℕ → PlainState
new_plain processes =
    record {
      rights = fin.empty;
      book = fin.empty;
      lines = replicate LINES None;
      places = replicate processes None;
    }

-- ---- passes

-- where the engine of a process is, None where its pass lies in the tables or there is no such process
abbrev pub place_at : Places → ℕ → Option Walk
place_at places process = get_or places process None

-- the pass of the process lies in the tables
pub record LiesHere (places : Places) (process : ℕ) : Type 0 where
  pub within : process < length places
  pub here : place_at places process ≡ None

-- ---- answers

-- the answer where this was found in place of what was asked for, or nothing amiss
abbrev pub walked_of : Option Found → Walked
walked_of None = Granted
walked_of (Some found) = Missed found

-- the answer where the line gave this cell, or none
abbrev pub looked_of : Option Cell → Looked
looked_of None = Miss
looked_of (Some cell) = Hit

-- the answer with so many engines in the key
abbrev pub drained_of : ℕ → Drained
drained_of zero = Yes
drained_of (suc more) = NotYet (suc more)
