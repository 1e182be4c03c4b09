-- The nineteen rules of an image, in their order, and where each is broken.
pub use Rattle.bd_image.specs.declared.rule.Rule.{Rule}
pub use Rattle.bd_image.specs.declared.rule.Rule.TheVariants.{Length, Magic, Version}
pub use Rattle.bd_image.specs.declared.rule.Rule.TheVariants.{BlockCount, InodeCount}
pub use Rattle.bd_image.specs.declared.rule.Rule.TheVariants.{HeaderRest}
pub use Rattle.bd_image.specs.declared.rule.Rule.TheVariants.{UsedMark, FreeRecord}
pub use Rattle.bd_image.specs.declared.rule.Rule.TheVariants.{Perms, ExtentCount}
pub use Rattle.bd_image.specs.declared.rule.Rule.TheVariants.{NameForm, NameFresh}
pub use Rattle.bd_image.specs.declared.rule.Rule.TheVariants.{RecordRest, ExtentRange, ExtentJoins, ExtentShares, Size}
pub use Rattle.bd_image.specs.declared.rule.Rule.TheVariants.{TailZero, Bitmap}
use Rattle.std.specs.Prelude.{◌≡◌, ◌≢◌, ◌⊎◌, ◌↔◌, ℕ, ◌+◌, ◌-◌, ◌*◌, ◌/◌, ◌%◌, ◌<◌}
use Rattle.std.specs.Prelude.{◌≤◌, min, IsTrue, MatchOption, Option, List, [], ◌∷◌}
use Rattle.std.specs.Prelude.{◌++◌, length, take, replicate, Contains, codes}
use Rattle.bd_base.specs.declared.limits.TheConstants.{BLOCK_SIZE, EXTENTS, FILES, FILE_SIZE, IMAGE_SIZE, PERMS}
use Rattle.bd_base.specs.declared.volume.Extent.{Extent}
use Rattle.bd_base.specs.Files.{blocks_for, data_start}
use Rattle.bd_base.specs.Names.{IsName}
use Rattle.bd_base.specs.Rules.{IsLeastBroken}
use Rattle.bd_image.specs.declared.layout.TheConstants.{BITMAP_PLACE, EXTENT_BYTES}
use Rattle.bd_image.specs.declared.layout.TheConstants.{EXTENTS_FIELD, HEADER_BYTES}
use Rattle.bd_image.specs.declared.layout.TheConstants.{INODES_PLACE, LEAST_INODES}
use Rattle.bd_image.specs.declared.layout.TheConstants.{LEAST_LENGTH, LENGTH_PLACE}
use Rattle.bd_image.specs.declared.layout.TheConstants.{NAME_FIELD, RECORD_BYTES}
use Rattle.bd_image.specs.declared.layout.TheConstants.{SIZE_FIELD, VERSION}
use Rattle.bd_image.specs.declared.layout.TheConstants.{VERSION_PLACE}
use Rattle.bd_image.specs.Layout.{IsUsed, block_count, blocks_in_image, byte_at}
use Rattle.bd_image.specs.Layout.{extent_at, extent_count, extent_place, inode_count}
use Rattle.bd_image.specs.Layout.{is_marked, name_field, perms_at, record_place}
use Rattle.bd_image.specs.Layout.{size_in_image, used_mark, version}

-- the number of a rule, as it is told
abbrev pub rule_number : Rule → ℕ
rule_number Length = 1
rule_number Magic = 2
rule_number Version = 3
rule_number BlockCount = 4
rule_number InodeCount = 5
rule_number HeaderRest = 6
rule_number UsedMark = 7
rule_number FreeRecord = 8
rule_number Perms = 9
rule_number ExtentCount = 10
rule_number NameForm = 11
rule_number NameFresh = 12
rule_number RecordRest = 13
rule_number ExtentRange = 14
rule_number ExtentJoins = 15
rule_number ExtentShares = 16
rule_number Size = 17
rule_number TailZero = 18
rule_number Bitmap = 19

-- a number of bytes that an image may have
pub record IsLength (n : ℕ) : Type 0 where
  pub whole_blocks : n % BLOCK_SIZE ≡ 0
  pub least : LEAST_LENGTH ≤ n
  pub most : n ≤ IMAGE_SIZE

-- a number of records that an image may have
pub record IsInodeCount (m : ℕ) : Type 0 where
  pub whole_blocks : m % LEAST_INODES ≡ 0
  pub least : LEAST_INODES ≤ m
  pub most : m ≤ FILES

-- the image is long enough for its records, and they are of a number that it may have
pub record HasRecords (b : List ℕ) : Type 0 where
  pub length_fits : IsLength (length b)
  pub count_fits : IsInodeCount (inode_count b)

-- a name, and zeros up to 32 bytes
pub record IsNameField (field : List ℕ) : Type 0 where
  pub name : List ℕ
  pub is_name : IsName name
  pub padded : field ≡ name ++ replicate (32 - length name) 0

-- the extent lies in the data area of an image with these numbers of blocks and records
pub record IsInDataArea (blocks inodes : ℕ) (e : Extent) : Type 0 where
  pub not_empty : 1 ≤ e.length
  pub start : data_start inodes ≤ e.start
  pub end : e.start + e.length ≤ blocks

-- some block is in both extents
abbrev pub ShareBlock : Extent → Extent → Type 0
ShareBlock d e = (d.start < e.start + e.length) × (e.start < d.start + d.length) × (0 < d.length) × (0 < e.length)

-- extent d of record i stands before extent e of record j, by record and then by extent
abbrev pub IsEarlier : ℕ → ℕ → ℕ → ℕ → Type 0
IsEarlier i d j e = (i < j) ⊎ ((i ≡ j) × (d < e))

-- e is an extent of record j, which is used
abbrev pub IsExtent : List ℕ → ℕ → ℕ → Type 0
IsExtent b j e = IsUsed b j × (e < extent_count b j)

-- the place is one of the bytes of the last block of record j past its size
pub record IsInTail (b : List ℕ) (j place : ℕ) : Type 0 where
  pub front : List ℕ
  pub last : ℕ
  pub blocks : blocks_in_image b j ≡ front ++ last ∷ []
  pub past : BLOCK_SIZE * last + (size_in_image b j - BLOCK_SIZE * length front) ≤ place
  pub within : place < BLOCK_SIZE * (last + 1)

-- the block is one of the metadata, or some file owns it
abbrev pub IsInUse : List ℕ → ℕ → Type 0
IsInUse b x = (x < data_start (inode_count b)) ⊎ ((j : ℕ) × IsUsed b j × Contains (blocks_in_image b j) x)

-- the places in record j that its extents leave: those past the count, and the last 16 bytes
abbrev pub IsInRest : List ℕ → ℕ → ℕ → Type 0
IsInRest b j place =
    (record_place j + EXTENTS_FIELD + EXTENT_BYTES * extent_count b j ≤ place)
    × (place < record_place j + RECORD_BYTES)

-- the image meets the rule
abbrev pub Obeys : List ℕ → Rule → Type 0
Obeys b Length = IsLength (length b)
Obeys b Magic = take 8 b ≡ codes "BYPDFS01"
Obeys b Version = version b ≡ VERSION
Obeys b BlockCount = block_count b * BLOCK_SIZE ≡ length b
Obeys b InodeCount = IsInodeCount (inode_count b)
Obeys b HeaderRest = (place : ℕ) → HEADER_BYTES ≤ place → place < BITMAP_PLACE → byte_at b place ≡ 0
Obeys b UsedMark = (j : ℕ) → j < inode_count b → used_mark b j ≤ 1
Obeys b FreeRecord =
    (j place : ℕ) → j < inode_count b → used_mark b j ≡ 0 → record_place j ≤ place
    → place < record_place j + RECORD_BYTES →
    byte_at b place ≡ 0
Obeys b Perms = (j : ℕ) → IsUsed b j → perms_at b j < PERMS
Obeys b ExtentCount = (j : ℕ) → IsUsed b j → extent_count b j ≤ EXTENTS
Obeys b NameForm = (j : ℕ) → IsUsed b j → IsNameField (name_field b j)
Obeys b NameFresh = (i j : ℕ) → IsUsed b i → IsUsed b j → i < j → name_field b i ≢ name_field b j
Obeys b RecordRest = (j place : ℕ) → IsUsed b j → IsInRest b j place → byte_at b place ≡ 0
Obeys b ExtentRange = (j e : ℕ) → IsExtent b j e → IsInDataArea (block_count b) (inode_count b) (extent_at b j e)
Obeys b ExtentJoins =
    (j e : ℕ) → IsExtent b j (e + 1)
    → (extent_at b j (e + 1)).start ≢ (extent_at b j e).start +
    (extent_at b j e).length
Obeys b ExtentShares =
    (i d j e : ℕ) → IsExtent b i d → IsExtent b j e → IsEarlier i d j e
    → ¬ ShareBlock (extent_at b i d) (extent_at b j e)
Obeys b Size = (j : ℕ) → IsUsed b j → (size_in_image b j ≤ FILE_SIZE)
    × (length (blocks_in_image b j) ≡ blocks_for (size_in_image b j))
Obeys b TailZero = (j place : ℕ) → IsUsed b j → IsInTail b j place → byte_at b place ≡ 0
Obeys b Bitmap = (x : ℕ) → x < 8 * BLOCK_SIZE → IsTrue (is_marked b x) ↔ IsInUse b x

-- the rule is broken at this place of the image
abbrev pub BreaksAt : List ℕ → Rule → ℕ → Type 0
BreaksAt b Length place = ¬ IsLength (length b) × (place ≡ min (length b) (IMAGE_SIZE + 1))
BreaksAt b Magic place = (take 8 b ≢ codes "BYPDFS01") × (place ≡ 0)
BreaksAt b Version place = (version b ≢ VERSION) × (place ≡ VERSION_PLACE)
BreaksAt b BlockCount place = (block_count b * BLOCK_SIZE ≢ length b) × (place ≡ LENGTH_PLACE)
BreaksAt b InodeCount place = ¬ IsInodeCount (inode_count b) × (place ≡ INODES_PLACE)
BreaksAt b HeaderRest place = (HEADER_BYTES ≤ place) × (place < BITMAP_PLACE) × (byte_at b place ≢ 0)
BreaksAt b UsedMark place = (j : ℕ) × (j < inode_count b) × (1 < used_mark b j) × (place ≡ record_place j)
BreaksAt b FreeRecord place =
    (j : ℕ) × (j < inode_count b) × (used_mark b j ≡ 0) × (record_place j ≤ place)
    × (place < record_place j + RECORD_BYTES)
    × (byte_at b place ≢ 0)
BreaksAt b Perms place = (j : ℕ) × IsUsed b j × (PERMS ≤ perms_at b j) × (place ≡ record_place j + 1)
BreaksAt b ExtentCount place = (j : ℕ) × IsUsed b j × (EXTENTS < extent_count b j) × (place ≡ record_place j + 2)
BreaksAt b NameForm place =
    (j : ℕ) × IsUsed b j × ¬ IsNameField (name_field b j)
    × (place ≡ record_place j + NAME_FIELD)
BreaksAt b NameFresh place =
    (i : ℕ) × (j : ℕ) × IsUsed b i × IsUsed b j × (i < j)
    × (name_field b i ≡ name_field b j) × (place ≡ record_place j + NAME_FIELD)
BreaksAt b RecordRest place = (j : ℕ) × IsUsed b j × IsInRest b j place × (byte_at b place ≢ 0)
BreaksAt b ExtentRange place =
    (j : ℕ) × (e : ℕ) × IsExtent b j e
    × ¬ IsInDataArea (block_count b) (inode_count b) (extent_at b j e)
    × (place ≡ extent_place j e)
BreaksAt b ExtentJoins place =
    (j : ℕ) × (e : ℕ) × IsExtent b j (e + 1)
    × ((extent_at b j (e + 1)).start
    ≡ (extent_at b j e).start + (extent_at b j e).length)
    × (place ≡ extent_place j (e + 1))
BreaksAt b ExtentShares place =
    (i : ℕ) × (d : ℕ) × (j : ℕ) × (e : ℕ) × IsExtent b i d × IsExtent b j e × IsEarlier i d j e
    × ShareBlock (extent_at b i d) (extent_at b j e) × (place ≡ extent_place j e)
BreaksAt b Size place =
    (j : ℕ) × IsUsed b j × ¬ ((size_in_image b j ≤ FILE_SIZE)
    × (length (blocks_in_image b j) ≡ blocks_for (size_in_image b j)))
    × (place ≡ record_place j + SIZE_FIELD)
BreaksAt b TailZero place = (j : ℕ) × IsUsed b j × IsInTail b j place × (byte_at b place ≢ 0)
BreaksAt b Bitmap place =
    (x : ℕ) × (x < 8 * BLOCK_SIZE) × ¬ (IsTrue (is_marked b x) ↔ IsInUse b x) × (place ≡ BITMAP_PLACE + x / 8)

-- the rule is broken at this place, and at no lesser one
pub record IsLeastBreak (b : List ℕ) (rule : Rule) (place : ℕ) : Type 0 where
  pub breaks : BreaksAt b rule place
  pub least : (q : ℕ) → q < place → ¬ BreaksAt b rule q

-- the image breaks no rule
abbrev pub Accepted : List ℕ → Type 0
Accepted b = (rule : Rule) → Obeys b rule

-- of the rules that the image breaks the least has this number, and this is the least place where it is broken
abbrev pub Broken : List ℕ → ℕ → ℕ → Type 0
Broken b number place = IsLeastBroken Rule rule_number (Obeys b) (λ rule. IsLeastBreak b rule place) number

-- what a check of the rule tells: the least place where it is broken, None where the image meets it
abbrev pub TellsBreak : List ℕ → Rule → Option ℕ → Type 0
TellsBreak b rule found = MatchOption found (Obeys b rule) (λ place. IsLeastBreak b rule place)
