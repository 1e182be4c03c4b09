-- Bytes that a device takes, as the effects of entries say them, and files that grow by a block.
use Rattle.std.proofs.Common.{◌≡◌, ℕ, ◌+◌, ◌-◌, ◌*◌, ◌<◌, ◌≤◌, true, List, [], ◌++◌, length, replicate, take, drop, slice_set, unwrap_or, Option, None, Some, arith, append_assoc, refl, sym, ap, ◌∙◌, subst}
use Rattle.std.specs.Prelude.{IsSome, nat_lt}
use Rattle.std.specs.Option.{option_map}
use Rattle.std.proofs.lemmas.Bool.{and_parts, false≢true, ltb-true}
use Rattle.std.proofs.lemmas.List.{take-append-drop}
use Rattle.bd_base.specs.declared.limits.TheConstants.{BLOCK_SIZE}
use Rattle.bd_base.specs.declared.volume.Inode.{Inode}
use Rattle.bd_base.specs.Allocation.{is_data_block, last_block}
use Rattle.bd_base.specs.Bounds.{Bounds}
use Rattle.bd_base.specs.Inodes.{existing_file, grown_file, growth_block, growth_refusal, inode_at, is_free, no_file}
use Rattle.bd_base.proofs.Growth.{allocated_block-free}
use Rattle.bd_base.proofs.Takes.{Grows-from}
use Rattle.bd_base.proofs.ValidFiles.{IsFree-from}
use Rattle.bd_entry.specs.Effects.{with_bytes_at, with_growth}
use Rattle.bd_fs.specs.Files.{Files, with_file}
use Rattle.bd_kernel.specs.Disks.{DiskState, disk_after, files_on}
use Rattle.bd_medium.specs.Contents.{with_block_zeroed, with_bytes, with_range}

-- bytes that are put in the place of others
pub put-bytes : (bytes piece : List ℕ) (place : ℕ) → with_bytes bytes place piece ≡ with_bytes_at place piece bytes
put-bytes bytes piece place = append_assoc (take place bytes) piece (drop (place + length piece) bytes)

-- no bytes that are put anywhere change nothing
pub put-none : (bytes : List ℕ) (place : ℕ) → with_bytes_at place [] bytes ≡ bytes
put-none bytes place =
    let same : place + 0 ≡ place = omega arith in
    ap (λ (n : ℕ). take place bytes ++ drop n bytes) same ∙ take-append-drop place bytes

-- zeros from a place of a block on, where these are as many as the rest of the block has bytes
pub put-zeros : (bytes zeros : List ℕ) (block from : ℕ) (rest : Bounds) → rest.lo ≡ from → rest.hi ≡ BLOCK_SIZE → zeros ≡ replicate (rest.hi - rest.lo) 0 →
    with_range bytes block rest zeros ≡ with_bytes_at (BLOCK_SIZE * block + from) (replicate (BLOCK_SIZE - from) 0) bytes
put-zeros bytes zeros block from rest lo hi are =
    put-bytes bytes zeros (BLOCK_SIZE * block + rest.lo)
    ∙ ap (λ (new : List ℕ). with_bytes_at (BLOCK_SIZE * block + rest.lo) new bytes) are
    ∙ ap (λ (n : ℕ). with_bytes_at (BLOCK_SIZE * block + n) (replicate (rest.hi - n) 0) bytes) lo
    ∙ ap (λ (n : ℕ). with_bytes_at (BLOCK_SIZE * block + from) (replicate (n - from) 0) bytes) hi

-- no zeros, where the block ends
pub put-no-zeros : (bytes : List ℕ) (block from : ℕ) → BLOCK_SIZE ≤ from →
    bytes ≡ with_bytes_at (BLOCK_SIZE * block + from) (replicate (BLOCK_SIZE - from) 0) bytes
put-no-zeros bytes block from full =
    let none : BLOCK_SIZE - from ≡ 0 = omega arith in
    sym (ap (λ (n : ℕ). with_bytes_at (BLOCK_SIZE * block + from) (replicate n 0) bytes) none ∙ put-none bytes (BLOCK_SIZE * block + from))

-- ---- a file that grows

-- a data block is one of the volume
pub within_total : (total capacity block : ℕ) → is_data_block total capacity block ≡ true → block < total
within_total total capacity block is = ltb-true block total (and_parts _ (nat_lt block total) is).1

-- the block that a file takes is one of the volume
pub taken_within : (total : ℕ) (files : List (Option Inode)) (f : Inode) (to block : ℕ) → growth_refusal total files f to ≡ None →
    growth_block total files f ≡ Some block → block < total
taken_within total files f to block allowed planned =
    let takes = Grows-from total files f to block allowed planned in
    let free = allocated_block-free (is_free total files) total (last_block f.blocks) block takes.takes in
    within_total total (length files) block (IsFree-from total files block free).is_data

grown-slot : (slot : Option Inode) (block : Option ℕ) (to : ℕ) → IsSome slot →
    Some (grown_file (unwrap_or slot no_file) block to) ≡ option_map (λ (f : Inode). grown_file f block to) slot
grown-slot None block to none = absurd (false≢true none)
grown-slot (Some f) block to some = refl

zeroed-block : (bytes : List ℕ) (block : ℕ) → with_block_zeroed bytes block ≡ with_bytes_at (BLOCK_SIZE * block + 0) (replicate BLOCK_SIZE 0) bytes
zeroed-block bytes block =
    let place : BLOCK_SIZE * block ≡ BLOCK_SIZE * block + 0 = omega arith in
    put-bytes bytes (replicate BLOCK_SIZE 0) (BLOCK_SIZE * block) ∙ ap (λ (n : ℕ). with_bytes_at n (replicate BLOCK_SIZE 0) bytes) place

module _ (d : DiskState) (fs : Files) (file to block : ℕ) (bytes : List ℕ) where
  abbrev grown_here : DiskState
  grown_here = disk_after d (λ s. with_growth s file to (growth_block s.total s.files (existing_file s.files file)))

  grown_here-is : IsSome (inode_at d.files file) →
      fs ≡ with_file (files_on d) file (Some (grown_file (existing_file d.files file) (Some block) to)) →
      bytes ≡ with_block_zeroed d.bytes block → growth_block d.total d.files (existing_file d.files file) ≡ Some block →
      record d { total = fs.total; files = fs.files; bytes = bytes } ≡ grown_here
  grown_here-is some grown zeroed planned =
      ap (λ (fs : Files). record d { total = fs.total; files = fs.files; bytes = bytes }) grown
      ∙ ap (λ (slot : Option Inode). record d { files = slice_set d.files file slot; bytes = bytes })
      (grown-slot (inode_at d.files file) (Some block) to some)
      ∙ ap (λ (bytes : List ℕ). record d {
        files = slice_set d.files file (option_map (λ (f : Inode). grown_file f (Some block) to) (inode_at d.files file));
        bytes = bytes;
      }) (zeroed ∙ zeroed-block d.bytes block)
      ∙ ap (λ (of : Option ℕ). disk_after d (λ s. with_growth s file to of)) (sym planned)

  -- the disk once a file has grown by a block that was set to zero
  pub grown-disk : (old : DiskState) → d ≡ old → IsSome (inode_at old.files file) →
      fs ≡ with_file (files_on d) file (Some (grown_file (existing_file d.files file) (Some block) to)) →
      bytes ≡ with_block_zeroed d.bytes block → growth_block d.total d.files (existing_file d.files file) ≡ Some block →
      record d { total = fs.total; files = fs.files; bytes = bytes }
      ≡ disk_after old (λ s. with_growth s file to (growth_block s.total s.files (existing_file s.files file)))
  grown-disk old same some grown zeroed planned =
      grown_here-is (subst (λ (d : DiskState). IsSome (inode_at d.files file)) (sym same) some) grown zeroed planned
      ∙ ap (λ (d : DiskState). disk_after d (λ s. with_growth s file to (growth_block s.total s.files (existing_file s.files file)))) same
