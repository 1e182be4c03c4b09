-- The fields of an image, read from its bytes. Numbers are little-endian.
use Rattle.std.specs.Prelude.{◌≡◌, ℕ, ◌+◌, ◌*◌, ◌/◌, ◌%◌, ◌^◌, ◌<◌, nat_eq, Bool, List, map, take, drop, slice_index}
use Rattle.std.specs.List.{range_with_len, take_while}
use Rattle.std.specs.Prelude.{not}
use Rattle.byteorder.specs.Endian.{little_number}
use Rattle.bd_base.specs.declared.volume.Extent.{Extent}
use Rattle.bd_base.specs.Extents.{blocks_of}
use Rattle.bd_image.specs.declared.layout.TheConstants.{BITMAP_PLACE, EXTENT_BYTES, EXTENTS_FIELD, INODES_PLACE, LENGTH_PLACE, NAME_FIELD, OWNER_FIELD, RECORD_BYTES, RECORDS_PLACE, SIZE_FIELD, VERSION_PLACE}

-- the byte at a place
abbrev pub byte_at : List ℕ → ℕ → ℕ
byte_at b place = slice_index b place

-- the number of this many bytes at a place
abbrev pub number_at : ℕ → List ℕ → ℕ → ℕ
number_at bytes b place = little_number bytes (drop place b)

-- the version of the format
abbrev pub version : List ℕ → ℕ
version b = number_at 4 b VERSION_PLACE

-- how many blocks the image has
abbrev pub block_count : List ℕ → ℕ
block_count b = number_at 4 b LENGTH_PLACE

-- how many records the image has
abbrev pub inode_count : List ℕ → ℕ
inode_count b = number_at 4 b INODES_PLACE

-- the place of record j
abbrev pub record_place : ℕ → ℕ
record_place j = RECORDS_PLACE + RECORD_BYTES * j

-- the first byte of record j: 1 where the record is used
abbrev pub used_mark : List ℕ → ℕ → ℕ
used_mark b j = byte_at b (record_place j)

-- record j is there and is used
abbrev pub IsUsed : List ℕ → ℕ → Type 0
IsUsed b j = (j < inode_count b) × (used_mark b j ≡ 1)

-- the permission bits of the file of record j
abbrev pub perms_at : List ℕ → ℕ → ℕ
perms_at b j = byte_at b (record_place j + 1)

-- how many extents record j has
abbrev pub extent_count : List ℕ → ℕ → ℕ
extent_count b j = number_at 2 b (record_place j + 2)

-- the uid of its owner
abbrev pub owner_at : List ℕ → ℕ → ℕ
owner_at b j = number_at 4 b (record_place j + OWNER_FIELD)

-- its size in bytes
abbrev pub size_in_image : List ℕ → ℕ → ℕ
size_in_image b j = number_at 8 b (record_place j + SIZE_FIELD)

-- the 32 bytes of record j's name
abbrev pub name_field : List ℕ → ℕ → List ℕ
name_field b j = take 32 (drop (record_place j + NAME_FIELD) b)

-- the name of record j: its field up to the first zero
abbrev pub name_at : List ℕ → ℕ → List ℕ
name_at b j = take_while (λ c. not (nat_eq c 0)) (name_field b j)

-- the place of extent e of record j
abbrev pub extent_place : ℕ → ℕ → ℕ
extent_place j e = record_place j + EXTENTS_FIELD + EXTENT_BYTES * e

-- extent e of record j: its first block and its length
abbrev pub extent_at : List ℕ → ℕ → ℕ → Extent
extent_at b j e = record { start = number_at 4 b (extent_place j e); length = number_at 4 b (extent_place j e + 4) }

-- the extents of record j in order
abbrev pub extents_at : List ℕ → ℕ → List Extent
extents_at b j = map (extent_at b j) (range_with_len 0 (extent_count b j))

-- the blocks of record j in order
abbrev pub blocks_in_image : List ℕ → ℕ → List ℕ
blocks_in_image b j = blocks_of (extents_at b j)

-- whether the bitmap marks block x
abbrev pub is_marked : List ℕ → ℕ → Bool
is_marked b x = nat_eq (byte_at b (BITMAP_PLACE + x / 8) / 2 ^ (x % 8) % 2) 1
