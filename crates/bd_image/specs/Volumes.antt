-- The volume that an image says, and the image of a volume.
use Rattle.std.specs.Prelude.{◌≡◌, ℕ, ◌+◌, ◌-◌, ◌*◌, ◌^◌, nat_eq, nat_lt, cond, Bool}
use Rattle.std.specs.Prelude.{false, ◌||◌, List, ◌∷◌, ◌++◌, map, drop, length}
use Rattle.std.specs.Prelude.{replicate, sum_by, Option, None, Some, codes}
use Rattle.std.specs.List.{range_with_len, list_any, flat_map}
use Rattle.byteorder.specs.Endian.{little_bytes}
use Rattle.bd_base.specs.declared.limits.TheConstants.{BLOCK_SIZE, EXTENTS}
use Rattle.bd_base.specs.declared.volume.Extent.{Extent}
use Rattle.bd_base.specs.declared.volume.Inode.{Inode}
use Rattle.bd_base.specs.declared.volume.Volume.{Volume}
use Rattle.bd_base.specs.Bytes.{AreBytes}
use Rattle.bd_base.specs.Extents.{extents_of}
use Rattle.bd_base.specs.Files.{data_start}
use Rattle.bd_image.specs.declared.layout.TheConstants.{EXTENT_BYTES, HEADER_BYTES, RECORD_BYTES, VERSION}
use Rattle.bd_image.specs.Layout.{block_count, blocks_in_image, inode_count, name_at}
use Rattle.bd_image.specs.Layout.{owner_at, perms_at, size_in_image, used_mark}
use Rattle.bd_image.specs.Rules.{Accepted}

-- the file that record j says, None where the record is free
abbrev pub inode_in_image : List ℕ → ℕ → Option Inode
inode_in_image b j =
    cond (nat_eq (used_mark b j) 1)
    (Some (record {
      name = name_at b j;
      owner = owner_at b j;
      perms =
          perms_at b j;
      size = size_in_image b j;
      blocks = blocks_in_image b j;
    }))
    None

-- the volume that an image says; the bytes of its metadata are left out as zeros
unfoldable pub volume_of : List ℕ → Volume
volume_of b =
    let metadata = BLOCK_SIZE * data_start (inode_count b) in
    record {
      total = block_count b;
      inodes = map (inode_in_image b) (range_with_len 0 (inode_count b));
      bytes = replicate metadata 0 ++ drop metadata b;
    }

-- the volume is what some accepted image says
unfoldable pub AcceptedVolume : Volume → Type 0
AcceptedVolume v = (b : List ℕ) × AreBytes b × Accepted b × (v ≡ volume_of b)

-- the first block: the magic bytes, the version, the numbers of blocks and records, and zeros
unfoldable pub header_bytes : ℕ → ℕ → List ℕ
header_bytes total inodes =
    codes "BYPDFS01" ++ little_bytes 4 VERSION ++ little_bytes 4 total
    ++ little_bytes 4 inodes ++ replicate (BLOCK_SIZE - HEADER_BYTES) 0

-- whether a file owns the block
abbrev pub owns_block : ℕ → Option Inode → Bool
owns_block x None = false
owns_block x (Some file) = list_any (nat_eq x) file.blocks

-- whether the block is one of the metadata or some file owns it
abbrev pub is_in_use : List (Option Inode) → ℕ → Bool
is_in_use inodes x = nat_lt x (data_start (length inodes)) || list_any (owns_block x) inodes

-- the byte of the bitmap for the eight blocks from x on
unfoldable pub bitmap_byte : List (Option Inode) → ℕ → ℕ
bitmap_byte inodes x = sum_by (λ k. cond (is_in_use inodes (x + k)) (2 ^ k) 0) (range_with_len 0 8)

-- the first n bytes of the bitmap
unfoldable pub bitmap_front : ℕ → List (Option Inode) → List ℕ
bitmap_front n inodes = map (λ i. bitmap_byte inodes (8 * i)) (range_with_len 0 n)

-- the second block
abbrev pub bitmap_bytes : List (Option Inode) → List ℕ
bitmap_bytes inodes = bitmap_front BLOCK_SIZE inodes

-- the eight bytes of an extent
abbrev pub extent_bytes : Extent → List ℕ
extent_bytes e = little_bytes 4 e.start ++ little_bytes 4 e.length

-- the record of a file
unfoldable pub file_bytes : Inode → List ℕ
file_bytes file =
    let extents = extents_of file.blocks in
    1 ∷ file.perms ∷ little_bytes 2 (length extents) ++ little_bytes 4 file.owner ++ little_bytes 8 file.size
    ++ file.name ++ replicate (32 - length file.name) 0
    ++ flat_map extent_bytes extents ++ replicate (EXTENT_BYTES * (EXTENTS - length extents) + 16) 0

-- a record, all zeros where it is free
abbrev pub record_bytes : Option Inode → List ℕ
record_bytes None = replicate RECORD_BYTES 0
record_bytes (Some file) = file_bytes file

-- the image of a volume
unfoldable pub image_of : Volume → List ℕ
image_of v =
    header_bytes v.total (length v.inodes) ++ bitmap_bytes v.inodes ++ flat_map record_bytes v.inodes
    ++ drop (BLOCK_SIZE * data_start (length v.inodes)) v.bytes
