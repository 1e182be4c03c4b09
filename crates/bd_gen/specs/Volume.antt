-- The volume that is made: the same from every number.
use Rattle.std.specs.Prelude.{ℕ, ◌+◌, ◌*◌, nat_lt, cond, List, [], ◌∷◌, map, Option, None, Some}
use Rattle.std.specs.List.{range_with_len}
use Rattle.bd_base.specs.declared.volume.Extent.{Extent}
use Rattle.bd_base.specs.declared.volume.Inode.{Inode}
use Rattle.bd_base.specs.declared.volume.Volume.{Volume}
use Rattle.bd_base.specs.Extents.{blocks_of}
use Rattle.bd_gen.specs.Bytes.{repeated}

-- `f` and the digit of the file
unfoldable pub file_name : ℕ → List ℕ
file_name file = 102 ∷ (48 + file) ∷ []

-- the one extent of a file: its 2000 blocks follow those of the file before it
unfoldable pub file_extent : ℕ → Extent
file_extent file = record { start = 3 + 2000 * file; length = 2000 }

-- a file that every user may read and write
unfoldable pub made_file : ℕ → Inode
made_file file = record {
  name = file_name file;
  owner = 1000;
  perms = 15;
  size = 8192000;
  blocks = blocks_of (file_extent file ∷ []);
}

-- the record of this number: the first eight are used
unfoldable pub made_slot : ℕ → Option Inode
made_slot record_number = cond (nat_lt record_number 8) (Some (made_file record_number)) None

-- the files by their ids
unfoldable pub made_inodes : List (Option Inode)
made_inodes = map made_slot (range_with_len 0 16)

-- an image of the greatest size, eight files in it, and zeros everywhere
unfoldable pub made_volume : Volume
made_volume = record { total = 16384; inodes = made_inodes; bytes = repeated (4096 * 16384) 0 }
