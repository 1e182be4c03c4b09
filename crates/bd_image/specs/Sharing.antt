-- Blocks that extents share.
use Rattle.std.specs.Prelude.{◌≡◌, ℕ, ◌+◌, ◌*◌, ◌<◌, ◌≤◌, ◌↔◌, ◌⊎◌, Bool, false, List}
use Rattle.std.specs.Prelude.{length, slice_index_or, Contains, IsTrue}
use Rattle.bd_base.specs.declared.limits.TheConstants.{BLOCK_SIZE}
use Rattle.bd_base.specs.declared.volume.Extent.{Extent}
use Rattle.bd_base.specs.Files.{data_start}
use Rattle.bd_image.specs.Layout.{block_count, blocks_in_image, extent_at, extent_count, inode_count, used_mark}
use Rattle.bd_image.specs.Rules.{IsEarlier, IsExtent, IsInUse, ShareBlock}

-- the block is in the extent
abbrev pub IsInExtent : Extent → ℕ → Type 0
IsInExtent e x = (e.start ≤ x) × (x < e.start + e.length)

-- the map marks the block
abbrev pub IsTakenIn : List Bool → ℕ → Type 0
IsTakenIn taken x = IsTrue (slice_index_or taken x false)

-- an extent before extent e of record j has the block
abbrev pub IsTakenBefore : List ℕ → ℕ → ℕ → ℕ → Type 0
IsTakenBefore b j e x = (i : ℕ) × (d : ℕ) × IsExtent b i d × IsEarlier i d j e × IsInExtent (extent_at b i d) x

-- the map marks the blocks of the extents before extent e of record j
pub record MarksBefore (b : List ℕ) (taken : List Bool) (j e : ℕ) : Type 0 where
  pub long : length taken ≡ block_count b
  pub marks : (x : ℕ) → x < block_count b → IsTakenIn taken x ↔ IsTakenBefore b j e x

-- extent e of record j shares a block with an earlier one
abbrev pub SharesEarlier : List ℕ → ℕ → ℕ → Type 0
SharesEarlier b j e = (i : ℕ) × (d : ℕ) × IsExtent b i d × IsEarlier i d j e
    × ShareBlock (extent_at b i d) (extent_at b j e)

-- none of the first n extents of record j shares a block with an earlier one
abbrev pub SharesNone : List ℕ → ℕ → ℕ → Type 0
SharesNone b j n = (e : ℕ) → e < n → ¬ SharesEarlier b j e

-- the first extent of record j that shares a block with an earlier one
pub record IsFirstShare (b : List ℕ) (j found : ℕ) : Type 0 where
  pub within : found < extent_count b j
  pub shares : SharesEarlier b j found
  pub before : SharesNone b j found

-- the extents of record j share no block with earlier ones, and the map marks them too
pub record SharesNoneAndMarks (b : List ℕ) (taken : List Bool) (j : ℕ) : Type 0 where
  pub shares : SharesNone b j (extent_count b j)
  pub marks : MarksBefore b taken (j + 1) 0

-- the map marks each block that is taken, and no others
pub record MarksTaken (b : List ℕ) (taken : List Bool) : Type 0 where
  pub long : length taken ≡ 8 * BLOCK_SIZE
  pub marks : (x : ℕ) → x < 8 * BLOCK_SIZE → IsTakenIn taken x ↔ IsInUse b x

-- the map marks the metadata and the blocks of the files among the first j records
pub record MarksFiles (b : List ℕ) (taken : List Bool) (j : ℕ) : Type 0 where
  pub long : length taken ≡ 8 * BLOCK_SIZE
  pub marks : (x : ℕ) → x < 8 * BLOCK_SIZE
      → IsTakenIn taken x ↔ ((x < data_start (inode_count b))
      ⊎ ((i : ℕ) × (i < j) × (used_mark b i ≡ 1) × Contains (blocks_in_image b i) x))
