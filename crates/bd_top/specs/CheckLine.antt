-- The line that tells of an accepted image.
use Rattle.std.specs.Prelude.{ℕ, List, [], ◌∷◌, ◌++◌, Option, is_some, codes, count_by, length}
use Rattle.std.specs.List.{range_with_len, sum_by}
use Rattle.bd_base.specs.declared.volume.Inode.{Inode}
use Rattle.bd_base.specs.declared.volume.Volume.{Volume}
use Rattle.bd_base.specs.Inodes.{blocks_of_slot, is_free}
use Rattle.bd_blocks.specs.declared.text.TheConstants.{LF}
use Rattle.bd_blocks.specs.Texts.{number_text}

-- how many files the volume has
abbrev pub file_count : Volume → ℕ
file_count v = count_by is_some v.inodes

-- how many data blocks it has that no file owns
abbrev pub free_count : Volume → ℕ
free_count v = count_by (is_free v.total v.inodes) (range_with_len 0 v.total)

-- how many blocks the files have
abbrev pub owned_count : List (Option Inode) → ℕ
owned_count inodes = sum_by (λ slot. length (blocks_of_slot slot)) inodes

-- the line: the numbers of blocks, of files and of free blocks
abbrev pub check_line : Volume → List ℕ
check_line v =
    codes "accepted blocks " ++ number_text v.total ++ codes " files " ++ number_text (file_count v)
    ++ codes " free " ++ number_text (free_count v) ++ LF ∷ []
