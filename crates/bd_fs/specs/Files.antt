-- Files as plain data.
use Rattle.std.specs.Prelude.{◌≡◌, ℕ, Option, Some, List, slice_set}
use Rattle.bd_base.specs.declared.reason.Reason.{Reason}
use Rattle.bd_base.specs.declared.volume.Inode.{Inode}
use Rattle.bd_base.specs.Inodes.{existing_file, grown_file, growth_block, growth_refusal}

-- how many blocks there are, and the files by their ids
pub record Files : Type 0 where
  pub total : ℕ
  pub files : List (Option Inode)

-- the file with this id, which exists
abbrev pub file_with_id : Files → ℕ → Inode
file_with_id fs id = existing_file fs.files id

-- these files, with this one in the place of the id
abbrev pub with_file : Files → ℕ → Option Inode → Files
with_file fs id file = record fs { files = slice_set fs.files id file }

-- the new files are the old ones, but for the one at the id, which took this block, if any, and has this size
abbrev pub GrowsFile : Files → Files → ℕ → Option ℕ → ℕ → Type 0
GrowsFile old new id block to = new ≡ with_file old id (Some (grown_file (file_with_id old id) block to))

-- the new files are the old ones with this one at the id
abbrev pub MakesFile : Files → Files → Inode → ℕ → Type 0
MakesFile old new file id = new ≡ with_file old id (Some file)

-- the block that a growth of the file to a larger size takes: none within its last block
abbrev pub growth_block_of : Files → ℕ → Option ℕ
growth_block_of fs id = growth_block fs.total fs.files (file_with_id fs id)

-- why the file does not grow to this larger size
abbrev pub growth_refusal_of : Files → ℕ → ℕ → Option Reason
growth_refusal_of fs id to = growth_refusal fs.total fs.files (file_with_id fs id) to
