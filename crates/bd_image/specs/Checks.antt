-- What the checks of single parts of an image find.
use Rattle.std.specs.Prelude.{◌≡◌, ◌≢◌, ℕ, ◌<◌, ◌≤◌, ◌+◌, List, length, map, slice_index}
use Rattle.bd_image.specs.Layout.{block_count, byte_at, extent_at, extent_count, inode_count}
use Rattle.bd_image.specs.Rules.{IsInDataArea}
use Rattle.bd_base.specs.Extents.{blocks_of}
use Rattle.std.specs.List.{range_with_len}

-- the first number below n at which the fact does not hold
pub record IsFirstFault (Holds : ℕ → Type 0) (n found : ℕ) : Type 0 where
  pub within : found < n
  pub fails : ¬ Holds found
  pub before : (k : ℕ) → k < found → Holds k

-- every byte from one place up to another is zero
abbrev pub AreZero : List ℕ → ℕ → ℕ → Type 0
AreZero b low high = (place : ℕ) → low ≤ place → place < high → byte_at b place ≡ 0

-- the first of these bytes that is not zero
pub record IsFirstNonzero (b : List ℕ) (low high found : ℕ) : Type 0 where
  pub low_enough : low ≤ found
  pub within : found < high
  pub not_zero : byte_at b found ≢ 0
  pub before : AreZero b low found

-- none of the first n extents of record j begins where the one before it ends
abbrev pub HasNoJoin : List ℕ → ℕ → ℕ → Type 0
HasNoJoin b j n = (e : ℕ) → e + 1 < n
    → (extent_at b j (e + 1)).start ≢ (extent_at b j e).start +
    (extent_at b j e).length

-- the first extent of record j that begins where the one before it ends
pub record IsFirstJoin (b : List ℕ) (j found : ℕ) : Type 0 where
  pub previous : ℕ
  pub next : found ≡ previous + 1
  pub within : found < extent_count b j
  pub joins : (extent_at b j found).start ≡ (extent_at b j previous).start + (extent_at b j previous).length
  pub before : HasNoJoin b j found

-- extent e of record j lies in the data area
abbrev pub IsInside : List ℕ → ℕ → ℕ → Type 0
IsInside b j e = IsInDataArea (block_count b) (inode_count b) (extent_at b j e)

-- the blocks of the first n extents of record j
abbrev pub blocks_before : List ℕ → ℕ → ℕ → List ℕ
blocks_before b j n = blocks_of (map (extent_at b j) (range_with_len 0 n))

-- all bytes from this place on are zero
abbrev pub ZeroesFrom : List ℕ → ℕ → Type 0
ZeroesFrom field start = (k : ℕ) → start ≤ k → k < length field → slice_index field k ≡ 0
