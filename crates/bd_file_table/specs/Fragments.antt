-- What contracts see of a pool: a finite map from pairs of a file and a part to fragments.
use Rattle.std.specs.Prelude.{◌≡◌, ℕ, ◌<◌, Option, None, Some, List, map, refl}
use Rattle.std.proofs.Common.{set, get_or}
use Rattle.std.specs.Coded.{Coded, code_by, coded×, coded_ℕ, coded_list, coded_option}
use Rattle.std.specs.FinMap as fin
use Rattle.std.specs.List.{range_with_len, slice_get}
use Rattle.std.specs.Option.{option_map}
use Rattle.bd_base.specs.declared.key.Cell.{Cell}
use Rattle.bd_base.specs.declared.limits.TheConstants.{FRAGMENTS, PART_BLOCKS}
use Rattle.bd_base.specs.Keys.{Pair, pair_cmp}

-- the cells of the blocks of a part in order, None where there is no block
abbrev pub Cells : Type 0
Cells = List (Option Cell)

-- a cell is stored as its numbers
abbrev pub cell_code : Coded Cell
cell_code =
    code_by (ℕ × ℕ) (coded× coded_ℕ coded_ℕ) (λ c. (c.block, c.limit))
    (λ n. record { block = n.0; limit = n.1 })
    (λ _. refl)

-- a fragment in use: its number, and its cells
pub record Fragment : Type 0 where
  pub number : ℕ
  pub cells : Cells

-- each pair in use with its fragment
abbrev pub Book : Type 0
Book = fin.FinMap pair_cmp Fragment

-- these cells at the front of a part, and no block behind them
abbrev pub padded : List Cell → Cells
padded cells = map (slice_get cells) (range_with_len 0 PART_BLOCKS)

-- the cell of this index, None where it is empty
abbrev pub cell_at : Cells → ℕ → Option Cell
cell_at cells index = get_or cells index None

-- these cells with that one filled
abbrev pub with_cell : ℕ → Cell → Cells → Cells
with_cell index cell cells = set cells index (Some cell)

-- the pair of a file and a part
abbrev pub pair_with : ℕ → ℕ → Pair
pair_with file part = record { file = file; part = part }

-- the fragment of this number and these cells
abbrev pub fragment_with : ℕ → Cells → Fragment
fragment_with number cells = record { number = number; cells = cells }

-- the number of a fragment
abbrev pub number_of : Fragment → ℕ
number_of fragment = fragment.number

-- the pair has the fragment of this number
abbrev pub HasNumber : Book → Pair → ℕ → Type 0
HasNumber book pair number = option_map number_of (fin.get book pair) ≡ Some number

-- the fragment with that cell filled
abbrev pub refilled : ℕ → Cell → Fragment → Fragment
refilled index cell fragment = record fragment { cells = with_cell index cell fragment.cells }

-- no pair has the fragment of this number
abbrev pub IsUnused : Book → ℕ → Type 0
IsUnused book number = (pair : Pair) → ¬ (HasNumber book pair number)

-- this is the lowest number that no pair has
pub record IsLowestUnused (book : Book) (number : ℕ) : Type 0 where
  pub below : number < FRAGMENTS
  pub unused : IsUnused book number
  pub lowest : (lower : ℕ) → lower < number → ¬ (IsUnused book lower)

-- a fragment is stored as its number and its cells
abbrev pub fragment_code : Coded Fragment
fragment_code =
    code_by (ℕ × Cells) (coded× coded_ℕ (coded_list (coded_option cell_code))) (λ f. (f.number, f.cells))
    (λ n. record { number = n.0; cells = n.1 }) (λ _. refl)
