-- What a volume is: as far as a machine needs it, and as an accepted image says it.
use Rattle.std.specs.Prelude.{◌≡◌, ℕ, ◌+◌, ◌*◌, ◌/◌, ◌%◌, ◌<◌, ◌≤◌, List, length, replicate, slice_get, slice_index, slice_index_or, take, Some, All}
use Rattle.bd_base.specs.declared.limits.TheConstants.{BLOCK_SIZE, BLOCKS, FILE_SIZE, FILES, USERS}
use Rattle.bd_base.specs.declared.volume.Inode.{Inode}
use Rattle.bd_base.specs.declared.volume.Volume.{Volume}
use Rattle.bd_base.specs.Bytes.{AreBytes}
use Rattle.bd_base.specs.Files.{blocks_for, data_start}
use Rattle.bd_base.specs.Inodes.{AreFiles, inode_at}

-- a file of a volume with this many blocks has the blocks that its size needs, each a block of the volume
pub record IsInode (total : ℕ) (f : Inode) : Type 0 where
  pub size : f.size ≤ FILE_SIZE
  pub blocks : length f.blocks ≡ blocks_for f.size
  pub below_end : All (λ block. block < total) f.blocks

-- a volume has the bytes of all its blocks, and sound files
pub record IsVolume (v : Volume) : Type 0 where
  pub total : v.total ≤ BLOCKS
  pub bytes : length v.bytes ≡ BLOCK_SIZE * v.total
  pub inodes : length v.inodes ≤ FILES
  pub files : (id : ℕ) (f : Inode) → slice_get v.inodes id ≡ Some (Some f) → IsInode v.total f

-- the bytes of the file's blocks past its size are zero
abbrev pub HasZeroTail : List ℕ → Inode → Type 0
HasZeroTail bytes f =
    (i : ℕ) → f.size ≤ i → i < BLOCK_SIZE * length f.blocks →
    slice_index_or bytes (BLOCK_SIZE * slice_index f.blocks (i / BLOCK_SIZE) + i % BLOCK_SIZE) 0 ≡ 0

-- how many bytes the metadata of a volume with this many records take
abbrev pub metadata_size : ℕ → ℕ
metadata_size inodes = BLOCK_SIZE * data_start inodes

-- a volume as an accepted image says it: files of an image, the bytes of all blocks, zeros in place of the metadata,
-- and zeros past the sizes of files
pub record IsSoundVolume (v : Volume) : Type 0 where
  pub files : AreFiles v.total v.inodes
  pub owners : (id : ℕ) (f : Inode) → inode_at v.inodes id ≡ Some f → f.owner < USERS
  pub are_bytes : AreBytes v.bytes
  pub all_bytes : length v.bytes ≡ BLOCK_SIZE * v.total
  pub metadata : take (metadata_size (length v.inodes)) v.bytes ≡ replicate (metadata_size (length v.inodes)) 0
  pub tails : (id : ℕ) (f : Inode) → inode_at v.inodes id ≡ Some f → HasZeroTail v.bytes f
