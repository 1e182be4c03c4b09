-- Lists of files by their ids, None where an id is free.
use Rattle.std.specs.Prelude.{◌≡◌, ℕ, ◌-◌, ◌*◌, ◌%◌, ◌<◌, ◌≤◌, Bool, false, IsTrue, nat_eq, nat_le, nat_lt, is_some, not, cond, take, Option, None, Some, List, [], ◌∷◌, ◌++◌, length, map, position, slice_index_or, unwrap_or, All}
use Rattle.std.specs.Option.{option_to_list}
use Rattle.std.specs.Str.{bytes_eq}
use Rattle.bd_base.specs.declared.limits.TheConstants.{BLOCK_RECORDS, BLOCK_SIZE, BLOCKS, EXTENTS, FILES, FILE_SIZE, LEAST_BLOCKS, PERMS}
use Rattle.bd_base.specs.declared.reason.Reason.{Reason}
use Rattle.bd_base.specs.declared.reason.Reason.TheVariants.{Exists, Inodes, NoSpace, Extents, TooBig}
use Rattle.bd_base.specs.declared.volume.Inode.{Inode}
use Rattle.bd_base.specs.Allocation.{allocated_block, is_data_block, is_free_block, last_block, times_listed}
use Rattle.bd_base.specs.Extents.{extents_of}
use Rattle.bd_base.specs.Files.{blocks_for}
use Rattle.bd_base.specs.Names.{IsName}

-- ---- one file by its id or name

-- the file with this id
abbrev pub inode_at : List (Option Inode) → ℕ → Option Inode
inode_at files id = slice_index_or files id None

-- an empty file of no name
abbrev pub no_file : Inode
no_file = record { name = []; owner = 0; perms = 0; size = 0; blocks = [] }

-- the file with this id, which exists
abbrev pub existing_file : List (Option Inode) → ℕ → Inode
existing_file files id = unwrap_or (inode_at files id) no_file

-- whether there is a file and it has this name
abbrev pub has_name : List ℕ → Option Inode → Bool
has_name name None = false
has_name name (Some file) = bytes_eq name file.name

-- the id of the file with this name
abbrev pub id_of : List ℕ → List (Option Inode) → Option ℕ
id_of name files = position (has_name name) files

-- the lowest free id
abbrev pub free_id : List (Option Inode) → Option ℕ
free_id files = position (λ file. not (is_some file)) files

-- ---- blocks

-- the blocks of a file, none where there is no file
abbrev pub blocks_of_slot : Option Inode → List ℕ
blocks_of_slot None = []
blocks_of_slot (Some file) = file.blocks

-- the blocks of each file
abbrev pub block_lists : List (Option Inode) → List (List ℕ)
block_lists files = map blocks_of_slot files

-- whether a block of an image of total blocks is a data block that no file has
abbrev pub is_free : ℕ → List (Option Inode) → ℕ → Bool
is_free total files block = is_free_block total (length files) (block_lists files) block

-- ---- what holds of the files of an image

-- a file of an image of total blocks with room for so many files
pub record IsValidFile (total capacity : ℕ) (file : Inode) : Type 0 where
  pub in_data_area : All (λ block. IsTrue (is_data_block total capacity block)) file.blocks
  pub enough_blocks : length file.blocks ≡ blocks_for file.size
  pub size_in_range : file.size ≤ FILE_SIZE
  pub few_extents : length (extents_of file.blocks) ≤ EXTENTS

-- no two files have one name
abbrev pub NamesDiffer : List (Option Inode) → Type 0
NamesDiffer files =
    (i j : ℕ) (file other : Inode) → inode_at files i ≡ Some file → inode_at files j ≡ Some other →
    file.name ≡ other.name → i ≡ j

-- files of an image of total blocks
pub record AreValidFiles (total : ℕ) (files : List (Option Inode)) : Type 0 where
  pub few_blocks : total ≤ BLOCKS
  pub few_files : length files ≤ FILES
  pub each : (id : ℕ) (file : Inode) → inode_at files id ≡ Some file → IsValidFile total (length files) file
  pub owned_once : (block : ℕ) → times_listed (block_lists files) block ≤ 1
  pub names_differ : NamesDiffer files

-- the files of an accepted image
pub record AreFiles (total : ℕ) (files : List (Option Inode)) : Type 0 where
  pub valid : AreValidFiles total files
  pub enough_blocks : LEAST_BLOCKS ≤ total
  pub some_room : BLOCK_RECORDS ≤ length files
  pub whole_blocks : length files % BLOCK_RECORDS ≡ 0
  pub names : (id : ℕ) (file : Inode) → inode_at files id ≡ Some file → IsName file.name
  pub perms : (id : ℕ) (file : Inode) → inode_at files id ≡ Some file → file.perms < PERMS

-- ---- why a file is not made or does not grow

-- why no file of this name is made
abbrev pub create_refusal : List ℕ → List (Option Inode) → Option Reason
create_refusal name files =
    cond (is_some (id_of name files)) (Some Exists)
    (cond (is_some (free_id files)) None (Some Inodes))

-- the block that a growth of this file to a larger size takes: none within its last block
abbrev pub growth_block : ℕ → List (Option Inode) → Inode → Option ℕ
growth_block total files file =
    cond (nat_eq (file.size % BLOCK_SIZE) 0) (allocated_block (is_free total files) total (last_block file.blocks)) None

-- why a file of these blocks does not get this next one: there is none, or it needs one extent too many
abbrev pub block_refusal : List ℕ → Option ℕ → Option Reason
block_refusal blocks None = Some NoSpace
block_refusal blocks (Some block) =
    cond (nat_le (length (extents_of (blocks ++ block ∷ []))) EXTENTS) None (Some Extents)

-- why this file does not grow to this larger size
abbrev pub growth_refusal : ℕ → List (Option Inode) → Inode → ℕ → Option Reason
growth_refusal total files file to =
    cond (nat_lt FILE_SIZE to) (Some TooBig)
    (cond (nat_eq (file.size % BLOCK_SIZE) 0)
    (block_refusal file.blocks (allocated_block (is_free total files) total (last_block file.blocks))) None)

-- ---- a file that was made, and after a change

-- an empty file, as one is made
abbrev pub empty_file : List ℕ → ℕ → ℕ → Inode
empty_file name owner perms = record { name = name; owner = owner; perms = perms; size = 0; blocks = [] }

-- this file with the block that it took, if any, and this size
abbrev pub grown_file : Inode → Option ℕ → ℕ → Inode
grown_file file block to = record file { size = to; blocks = file.blocks ++ option_to_list block }

-- this file without its last block
abbrev pub without_last : Inode → Inode
without_last file =
    let left = length file.blocks - 1 in
    record file { size = BLOCK_SIZE * left; blocks = take left file.blocks }
