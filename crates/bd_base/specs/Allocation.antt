-- Which block an allocation takes, over a test that says which blocks are free.
use Rattle.std.specs.Prelude.{ℕ, ◌+◌, ◌-◌, Bool, ◌&&◌, nat_eq, nat_le, nat_lt, cond, Option, None, Some, List, length, find, sum_by, count_by, slice_get}
use Rattle.std.specs.List.{range_with_len}
use Rattle.std.specs.Option.{option_or}
use Rattle.bd_base.specs.Files.{data_start}

-- the lowest free block below total
abbrev pub lowest_free : (ℕ → Bool) → ℕ → Option ℕ
lowest_free is_free total = find is_free (range_with_len 0 total)

-- the block after this one, where there is one before and that is free
abbrev pub free_block_after : (ℕ → Bool) → Option ℕ → Option ℕ
free_block_after is_free None = None
free_block_after is_free (Some block) = cond (is_free (block + 1)) (Some (block + 1)) None

-- the block after this one where that is free, else the lowest free block below total; none where no block is free
abbrev pub allocated_block : (ℕ → Bool) → ℕ → Option ℕ → Option ℕ
allocated_block is_free total after = option_or (free_block_after is_free after) (lowest_free is_free total)

-- whether this is a data block of an image of total blocks with room for so many files
abbrev pub is_data_block : ℕ → ℕ → ℕ → Bool
is_data_block total capacity block = nat_le (data_start capacity) block && nat_lt block total

-- how often a block stands in lists of blocks
abbrev pub times_listed : List (List ℕ) → ℕ → ℕ
times_listed lists block = sum_by (λ blocks. count_by (nat_eq block) blocks) lists

-- whether this is a data block that stands in none of the lists of blocks
abbrev pub is_free_block : ℕ → ℕ → List (List ℕ) → ℕ → Bool
is_free_block total capacity lists block = is_data_block total capacity block && nat_eq (times_listed lists block) 0

-- the last block of a file, none where it has no block
abbrev pub last_block : List ℕ → Option ℕ
last_block blocks = slice_get blocks (length blocks - 1)
