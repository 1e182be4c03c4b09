-- When a file does not grow, in words.
use Rattle.std.specs.Prelude.{◌≡◌, ◌↔◌, ℕ, ◌%◌, ◌<◌, ◌≤◌, false, Option, Some, List, [], ◌∷◌, ◌++◌, length}
use Rattle.bd_base.specs.declared.limits.TheConstants.{BLOCK_SIZE, EXTENTS, FILE_SIZE}
use Rattle.bd_base.specs.declared.reason.Reason.TheVariants as reason
use Rattle.bd_base.specs.declared.volume.Inode.{Inode}
use Rattle.bd_base.specs.Allocation.{allocated_block, last_block}
use Rattle.bd_base.specs.Extents.{extents_of}
use Rattle.bd_base.specs.Inodes.{growth_refusal, is_free}

-- a larger size needs a block, as the file has no last block that is not full
abbrev pub NeedsBlock : Inode → Type 0
NeedsBlock file = file.size % BLOCK_SIZE ≡ 0

-- no block is free
abbrev pub NoneIsFree : ℕ → List (Option Inode) → Type 0
NoneIsFree total files = (block : ℕ) → is_free total files block ≡ false

-- with the block that would be taken the file has more extents than it may have
pub record NeedsExtent (total : ℕ) (files : List (Option Inode)) (file : Inode) : Type 0 where
  pub block : ℕ
  pub taken : allocated_block (is_free total files) total (last_block file.blocks) ≡ Some block
  pub many : EXTENTS < length (extents_of (file.blocks ++ block ∷ []))

-- when a growth to this larger size is refused, and why: the first reason is told
pub record RefusesGrowth (total : ℕ) (files : List (Option Inode)) (file : Inode) (to : ℕ) : Type 0 where
  pub too_big : (growth_refusal total files file to ≡ Some reason.TooBig) ↔ (FILE_SIZE < to)
  pub no_space :
      (growth_refusal total files file to ≡ Some reason.NoSpace)
      ↔ ((to ≤ FILE_SIZE) × NeedsBlock file × NoneIsFree total files)
  pub extents :
      (growth_refusal total files file to ≡ Some reason.Extents)
      ↔ ((to ≤ FILE_SIZE) × NeedsBlock file × NeedsExtent total files file)
