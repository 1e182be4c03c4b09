-- What the parts of a file system keep between calls.
use Rattle.std.specs.Prelude.{◌≡◌, ℕ, Bool, nat_eq, List, Option, count_by, length, slice_index}
use Rattle.std.specs.FinSet as set
use Rattle.bd_base.specs.declared.volume.Inode.{Inode}
use Rattle.bd_base.specs.Extents.{extents_of}
use Rattle.bd_base.specs.Inodes.{AreValidFiles, blocks_of_slot, id_of, inode_at, is_free}
use Rattle.bd_extents.specs.FreeBlocks.{FreeBlocks}

-- how many blocks there are, the files by their ids, how many extents each has, the free blocks, and the ids by name
pub record Parts : Type 0 where
  pub total : ℕ
  pub files : List (Option Inode)
  pub counts : List ℕ
  pub free : FreeBlocks
  pub id_by_name : List ℕ → Option ℕ

-- the files are valid, and each other part says of them what it should
pub record IsKept (p : Parts) : Type 0 where
  pub valid : AreValidFiles p.total p.files
  pub all_counted : length p.counts ≡ length p.files
  pub counted : (id : ℕ) → slice_index p.counts id ≡ length (extents_of (blocks_of_slot (inode_at p.files id)))
  pub same_total : p.free.total ≡ p.total
  pub free_blocks : (block : ℕ) → set.contains p.free.free block ≡ is_free p.total p.files block
  pub named : (name : List ℕ) → p.id_by_name name ≡ id_of name p.files

-- whether the block is none of these
abbrev pub is_none_of : List ℕ → ℕ → Bool
is_none_of blocks block = nat_eq (count_by (nat_eq block) blocks) 0
