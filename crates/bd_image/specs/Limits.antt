-- What the writer asks of a volume and of its files.
use Rattle.std.specs.Prelude.{◌≡◌, ◌*◌, ◌≤◌, length}
use Rattle.bd_base.specs.declared.limits.TheConstants.{BLOCK_SIZE, EXTENTS}
use Rattle.bd_base.specs.declared.volume.Inode.{Inode}
use Rattle.bd_base.specs.declared.volume.Volume.{Volume}
use Rattle.bd_base.specs.Extents.{extents_of}
use Rattle.bd_base.specs.Inodes.{AreFiles}

-- the volume has the bytes of all its blocks, and its files are those of an image
pub record IsWithinLimits (v : Volume) : Type 0 where
  pub bytes : length v.bytes ≡ BLOCK_SIZE * v.total
  pub files : AreFiles v.total v.inodes

-- a file whose record has room for its name and its extents
pub record FitsRecord (file : Inode) : Type 0 where
  pub name : length file.name ≤ 32
  pub extents : length (extents_of file.blocks) ≤ EXTENTS
