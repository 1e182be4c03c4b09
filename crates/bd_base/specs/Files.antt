-- Sizes of files in blocks, bytes and parts.
use Rattle.std.specs.Prelude.{ℕ, ◌+◌, ◌-◌, ◌*◌, ◌/◌, min, nat_lt, cond, List, length}
use Rattle.bd_base.specs.declared.limits.TheConstants.{BLOCK_RECORDS, BLOCK_SIZE, PART_BLOCKS}

-- how many blocks a file of this size has
abbrev pub blocks_for : ℕ → ℕ
blocks_for size = (size + (BLOCK_SIZE - 1)) / BLOCK_SIZE

-- how many parts a file of this many blocks has
abbrev pub parts_for : ℕ → ℕ
parts_for blocks = (blocks + (PART_BLOCKS - 1)) / PART_BLOCKS

-- how many bytes of block number index belong to a file of this size and these blocks; 0 where there is no such block
abbrev pub limit_of : ℕ → List ℕ → ℕ → ℕ
limit_of size blocks index = cond (nat_lt index (length blocks)) (min BLOCK_SIZE (size - BLOCK_SIZE * index)) 0

-- the first data block of an image with room for so many files: the header, the bitmap and the records stand before it
abbrev pub data_start : ℕ → ℕ
data_start capacity = 2 + capacity / BLOCK_RECORDS
