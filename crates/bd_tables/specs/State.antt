-- The state of the translation tables, in terms of keys, files, cells and lines alone.
use Rattle.std.specs.Prelude.{ℕ, ◌*◌, ◌/◌, ◌%◌, Bool, true, false, ◌&&◌, not, nat_eq, nat_le, cond, Option, None, Some, List, count_by}
use Rattle.std.specs.List.{range_with_len}
use Rattle.std.proofs.Common.{get_or}
use Rattle.std.specs.FinMap as fin
use Rattle.bd_base.specs.declared.journal.Found.{Found}
use Rattle.bd_base.specs.declared.journal.Found.TheVariants.{NoDirectory, NoRight, NoEntry, Beyond}
use Rattle.bd_base.specs.declared.key.Cell.{Cell}
use Rattle.bd_base.specs.declared.key.Key.{Key}
use Rattle.bd_base.specs.declared.limits.TheConstants.{DESCRIPTORS, PART_BLOCKS, PROCESSES}
use Rattle.bd_base.specs.Keys.{Pair, key_cmp, pair_cmp, same_key}
use Rattle.bd_file_table.specs.Fragments.{Cells, cell_at}
use Rattle.bd_lines.specs.Lines.{LineList}
use Rattle.bd_tables.specs.declared.request.Completion.{Completion}
use Rattle.bd_tables.specs.declared.request.Request.{Request}
use Rattle.bd_tables.specs.declared.state.Right.{Right}
use Rattle.bd_tables.specs.declared.state.RightState.{RightState}
use Rattle.bd_tables.specs.declared.state.RightState.TheVariants.{On, Cleared, Drained}
use Rattle.bd_tables.specs.declared.state.Walk.{Walk}
use Rattle.bd_tables.specs.declared.state.Walk.TheVariants.{Idle, Entered, Refused, Translated}

-- each attached key with its right
abbrev pub Rights : Type 0
Rights = fin.FinMap key_cmp Right

-- each pair in use with its cells
abbrev pub CellMap : Type 0
CellMap = fin.FinMap pair_cmp Cells

-- the tables: the rights, the cells, the lines of the cache by their numbers, and the walks of the engines by their
-- processes
pub record TableState : Type 0 where
  pub rights : Rights
  pub cells : CellMap
  pub lines : LineList
  pub walks : List Walk

-- ---- rights

-- the pair of a file and a key's part
abbrev pub pair_for : ℕ → Key → Pair
pair_for file key = record { file = file; part = key.part }

-- the pair that a right of this key is about
abbrev pub pair_under : Key → Right → Pair
pair_under key right = pair_for right.file key

-- the pair of the block of this index
abbrev pub block_pair : ℕ → ℕ → Pair
block_pair file index = record { file = file; part = index / PART_BLOCKS }

-- what an enter finds in place of a right that is On and allows what is asked, None where it finds that
abbrev pub found_under : RightState → Bool → Bool → Option Found
found_under On allowed write = cond (write && not allowed) (Some NoRight) None
found_under Cleared allowed write = Some NoDirectory
found_under (Drained swept) allowed write = Some NoDirectory

abbrev pub found_entering : Option Right → Bool → Option Found
found_entering None write = Some NoDirectory
found_entering (Some right) write = found_under right.state right.write write

-- whether the right is about this file
abbrev pub is_about : ℕ → Option Right → Bool
is_about file None = false
is_about file (Some right) = nat_eq right.file file

-- the key of number n among those of a part: one for each process and descriptor
abbrev pub key_of_part : ℕ → ℕ → Key
key_of_part part n = record { process = n / DESCRIPTORS; fd = n % DESCRIPTORS; part = part }

-- how many keys use the pair
unfoldable pub users : Rights → Pair → ℕ
users rights pair =
    count_by (λ n. is_about pair.file (fin.get rights (key_of_part pair.part n)))
    (range_with_len 0 (PROCESSES * DESCRIPTORS))

-- ---- cells

-- the cell of a block of a file, None where its part is not in use or has no such block
abbrev pub entry_in : Option Cells → ℕ → Option Cell
entry_in None index = None
entry_in (Some cells) index = cell_at cells (index % PART_BLOCKS)

-- the lookup of a key and an index: the cell of that block of the file that the right is about
abbrev pub lookup_under : CellMap → Key → ℕ → Option Right → Option Cell
lookup_under cells key index None = None
lookup_under cells key index (Some right) = entry_in (fin.get cells (pair_under key right)) index

abbrev pub lookup : TableState → Key → ℕ → Option Cell
lookup tables key index = lookup_under tables.cells key index (fin.get tables.rights key)

-- what a read of the entry finds in place of a cell that reaches to hi, None where it finds one
abbrev pub found_reading : ℕ → Option Cell → Option Found
found_reading hi None = Some NoEntry
found_reading hi (Some cell) = cond (nat_le hi cell.limit) None (Some (Beyond cell.limit))

-- ---- walks

-- where the engine of a process is
abbrev pub walk_at : List Walk → ℕ → Walk
walk_at walks process = get_or walks process Idle

-- the request of a walk that is not idle
abbrev pub request_of : Walk → Option Request
request_of Idle = None
request_of (Entered request) = Some request
request_of (Refused request found) = Some request
request_of (Translated request completion) = Some request

-- whether the request is under this key
abbrev pub is_under : Key → Option Request → Bool
is_under key None = false
is_under key (Some request) = same_key request.key key

-- whether the engine is in the key, granted or refused
abbrev pub is_in : Key → Walk → Bool
is_in key walk = is_under key (request_of walk)

-- how many engines are in the key
abbrev pub engines_in : List Walk → Key → ℕ
engines_in walks key = count_by (is_in key) walks

-- what the engine was told, None where it holds no translation
abbrev pub told_of : Walk → Option Completion
told_of Idle = None
told_of (Entered request) = None
told_of (Refused request found) = None
told_of (Translated request completion) = Some completion

-- what the engine found in place of what it asked for, None where it was not refused
abbrev pub found_of : Walk → Option Found
found_of Idle = None
found_of (Entered request) = None
found_of (Refused request found) = Some found
found_of (Translated request completion) = None

-- the translation that a cell gives
abbrev pub completion_of : Request → Cell → Completion
completion_of request cell = record { read = true; write = request.write; block = cell.block; limit = cell.limit }

-- the cell that a translation repeats
abbrev pub cell_of : Completion → Cell
cell_of completion = record { block = completion.block; limit = completion.limit }
