-- What a disk holds, and what an entry changes in it.
use Rattle.std.specs.Prelude.{◌≡◌, ℕ, ◌+◌, ◌-◌, ◌*◌, ◌/◌, ◌<◌, ◌≤◌, true, false, List, [], ◌∷◌, ◌++◌, length, replicate, Option, None, Some, IsSome, slice_set}
use Rattle.bd_base.specs.declared.limits.TheConstants.{BLOCK_SIZE, DESCRIPTORS}
use Rattle.bd_base.specs.declared.volume.Inode.{Inode}
use Rattle.bd_base.specs.Bounds.{Bounds}
use Rattle.bd_base.specs.Files.{blocks_for}
use Rattle.bd_base.specs.Inodes.{create_refusal, empty_file, existing_file, free_id, growth_block, growth_refusal, inode_at}
use Rattle.bd_base.specs.Scripts.{IsCall}
use Rattle.bd_entry.specs.declared.entry.Entry.{Entry}
use Rattle.bd_entry.specs.declared.entry.Entry.TheVariants.{Access, Created, Extended, Released, Sized, Unlinked}
use Rattle.bd_entry.specs.Calls.{Place, at_of, is_ended_by}
use Rattle.bd_entry.specs.Effects.{after_change}
use Rattle.bd_entry.specs.Laws.{AreOfCall}
use Rattle.bd_entry.specs.Rules.{EntryRule, FitsStore}
use Rattle.bd_entry.specs.RulesOfRights.{TheDescriptor}
use Rattle.bd_entry.specs.Store.{Store, Valid, size_at}
use Rattle.bd_fs.specs.Files.{Files}
use Rattle.bd_kernel.specs.Changes.{CanFollow, Rows, slot_at}
use Rattle.bd_kernel.specs.Holders.{Table}
use Rattle.bd_medium.specs.Contents.{HasBlock}

-- how many blocks there are, the files by their ids, the bytes of all blocks, the descriptors of each process, and the
-- file that each holds
pub record DiskState : Type 0 where
  pub total : ℕ
  pub files : List (Option Inode)
  pub bytes : List ℕ
  pub rows : Rows
  pub held : List (Option ℕ)

-- the disk of a store: the store's files, bytes and descriptors
pub record IsDiskOf (d : DiskState) (s : Store) : Type 0 where
  pub total : s.total ≡ d.total
  pub files : s.files ≡ d.files
  pub bytes : s.bytes ≡ d.bytes
  pub opens : s.opens ≡ d.rows

-- the files, and how many blocks there are
abbrev pub files_on : DiskState → Files
files_on d = record { total = d.total; files = d.files }

-- the descriptors, and the files that processes hold
abbrev pub table_on : DiskState → Table
table_on d = record { rows = d.rows; held = d.held }

-- a disk of these files and bytes, on which none of so many processes has anything open or holds a file
abbrev pub unused_disk : ℕ → List (Option Inode) → List ℕ → ℕ → DiskState
unused_disk total files bytes processes =
    record {
      total = total;
      files = files;
      bytes = bytes;
      rows = replicate processes (replicate DESCRIPTORS None);
      held = replicate processes None;
    }

-- ---- what an entry's own change asks of the disk

-- the block is there, and these are as many bytes as the range has
pub record CanWrite (bytes : List ℕ) (block : ℕ) (range : Bounds) (new : List ℕ) : Type 0 where
  pub there : HasBlock bytes block
  pub count : length new ≡ range.hi - range.lo

-- the file is there and can grow to this size, by this block
pub record CanGrow (total : ℕ) (files : List (Option Inode)) (file to : ℕ) (block : Option ℕ) : Type 0 where
  pub exists : IsSome (inode_at files file)
  pub larger : size_at files file < to
  pub one_block : to ≤ BLOCK_SIZE * (size_at files file / BLOCK_SIZE + 1)
  pub allowed : growth_refusal total files (existing_file files file) to ≡ None
  pub block_is : growth_block total files (existing_file files file) ≡ block

-- the file is there, and this holds of its blocks
pub record HasBlocks (files : List (Option Inode)) (file : ℕ) (Holds : List ℕ → Type 0) : Type 0 where
  pub exists : IsSome (inode_at files file)
  pub blocks : Holds (existing_file files file).blocks

-- no file has the name, and the one that is made has the lowest free id
pub record CanCreate (files : List (Option Inode)) (file : ℕ) (name : List ℕ) : Type 0 where
  pub lowest : free_id files ≡ Some file
  pub allowed : create_refusal name files ≡ None

-- what an entry's own change asks of the disk
abbrev pub CanChange : DiskState → Entry → Type 0
CanChange d (Created at file name perms) = CanCreate d.files file name
CanChange d (Access at piece fd file index (Some block) range true way bytes) = CanWrite d.bytes block range bytes
CanChange d (Extended at file to block) = CanGrow d.total d.files file to block
CanChange d (Released at file index block) = HasBlocks d.files file (λ blocks. 0 < length blocks)
CanChange d (Sized at fd size) =
    TheDescriptor (slot_at d.rows at.process fd)
    (λ it. HasBlocks d.files it.file (λ blocks. length blocks ≡ blocks_for size))
CanChange d (Unlinked at file) = HasBlocks d.files file (λ blocks. blocks ≡ [])
CanChange d entry = CanFollow d.rows entry

-- an entry that a call within the limits adds to a valid store, after those of it that have not ended it: all are of
-- the call, and it keeps the rules of the store
pub record IsSoundEntry (s : Store) (p : Place) (e : Entry) : Type 0 where
  pub valid : Valid s
  pub within : IsCall p.call
  pub of_place : at_of e ≡ p.at
  pub all_of_call : AreOfCall (record p { before = [] }) (p.before ++ e ∷ [])
  pub unfinished : is_ended_by p.call p.before ≡ false
  pub keeps : (rule : EntryRule) → FitsStore s p e rule

-- such an entry's own change asks of the store's disk only what holds there
abbrev pub SoundEntriesCanChange : Type 0
SoundEntriesCanChange =
    (d : DiskState) (s : Store) (p : Place) (e : Entry) → IsDiskOf d s → IsSoundEntry s p e → CanChange d e

-- ---- the disk after a change

-- the store of a disk with no user and no running call, where these are not looked at
abbrev pub store_on : DiskState → Store
store_on d =
    record { total = d.total; uids = []; files = d.files; bytes = d.bytes; opens = d.rows; work = [] }

-- the disk with the files, the bytes and the descriptors of this store
abbrev pub disk_as : DiskState → Store → DiskState
disk_as d s = record { total = s.total; files = s.files; bytes = s.bytes; rows = s.opens; held = d.held }

-- the disk after this change of its store
abbrev pub disk_after : DiskState → (Store → Store) → DiskState
disk_after d change = disk_as d (change (store_on d))

-- the disk with an empty file of this user
abbrev pub with_new_file : DiskState → ℕ → List ℕ → ℕ → ℕ → DiskState
with_new_file d file name uid perms =
    record d { files = slice_set d.files file (Some (empty_file name uid perms)) }

-- the disk after the own change of an entry of a process with this user
abbrev pub changed_disk : DiskState → ℕ → Entry → DiskState
changed_disk d uid (Created at file name perms) = with_new_file d file name uid perms
changed_disk d uid entry = disk_after d (λ s. after_change s entry)
