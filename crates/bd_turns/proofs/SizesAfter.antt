-- The size and the blocks of a file after it grew, or lost its last block.
use Rattle.std.proofs.Common.{◌≡◌, ℕ, ◌+◌, ◌-◌, ◌*◌, ◌<◌, ◌≤◌, List, length, take, Option, Some, ap, ◌∙◌, arith}
use Rattle.std.specs.Prelude.{slice_set}
use Rattle.std.specs.Option.{option_map, option_map_or}
use Rattle.std.proofs.lemmas.List.{length-take-le}
use Rattle.bd_base.specs.declared.journal.At.{At}
use Rattle.bd_base.specs.declared.script.Call.{Call}
use Rattle.bd_base.specs.declared.volume.Inode.{Inode}
use Rattle.bd_base.specs.Inodes.{blocks_of_slot, grown_file, inode_at, without_last}
use Rattle.bd_base.proofs.FileLists.{inode_at-set_same}
use Rattle.bd_entry.specs.declared.entry.Entry.{Entry}
use Rattle.bd_entry.specs.declared.entry.Entry.TheVariants as entries
use Rattle.bd_entry.specs.Calls.{at_of}
use Rattle.bd_entry.specs.Effects.{after_change}
use Rattle.bd_entry.specs.Rules.{place_in}
use Rattle.bd_entry.specs.Store.{Store, blocks_in, file_in, size_in}
use Rattle.bd_entry.proofs.EffectsOnFiles.{effect_of-files}
use Rattle.bd_entry.proofs.Slots.{slot_within}
use Rattle.bd_turns.proofs.FilesOfCalls.{store_after}

-- the file after its change
changed_file : (s : Store) (call : Call) (e : Entry) (file : ℕ) (f new : Inode) → file_in s file ≡ Some f →
    (after_change s e).files ≡ slice_set s.files file (Some new) →
    file_in (store_after s call e) file ≡ Some new
changed_file s call e file f new there files =
    ap (λ (fs : List (Option Inode)). inode_at fs file) ((effect_of-files s (place_in s call (at_of e)) e).files ∙ files)
    ∙ inode_at-set_same s.files file (Some new) (slot_within s.files file f there)

size-of : (s : Store) (file : ℕ) (f : Inode) → file_in s file ≡ Some f → size_in s file ≡ f.size
size-of s file f is = ap (λ (slot : Option Inode). option_map_or (λ (f : Inode). f.size) slot 0) is

blocks-of : (s : Store) (file : ℕ) (f : Inode) → file_in s file ≡ Some f → blocks_in s file ≡ f.blocks
blocks-of s file f is = ap blocks_of_slot is

-- a file that grew has the new size
pub extended_size : (s : Store) (call : Call) (at : At) (file to : ℕ) (block : Option ℕ) (f : Inode) → file_in s file ≡ Some f →
    size_in (store_after s call (entries.Extended at file to block)) file ≡ to
extended_size s call at file to block f there =
    let new : Inode = grown_file f block to in
    size-of (store_after s call (entries.Extended at file to block)) file new
    (changed_file s call (entries.Extended at file to block) file f new there
    (ap (λ (slot : Option Inode). slice_set s.files file (option_map (λ f. grown_file f block to) slot)) there))

released_file : (s : Store) (call : Call) (at : At) (file index block : ℕ) (f : Inode) → file_in s file ≡ Some f →
    file_in (store_after s call (entries.Released at file index block)) file ≡ Some (without_last f)
released_file s call at file index block f there =
    changed_file s call (entries.Released at file index block) file f (without_last f) there
    (ap (λ (slot : Option Inode). slice_set s.files file (option_map without_last slot)) there)

-- a file without its last block ends with the block before it
pub released_size : (s : Store) (call : Call) (at : At) (file index block : ℕ) (f : Inode) → file_in s file ≡ Some f →
    size_in (store_after s call (entries.Released at file index block)) file ≡ 4096 * (length f.blocks - 1)
released_size s call at file index block f there =
    size-of (store_after s call (entries.Released at file index block)) file (without_last f) (released_file s call at file index block f there)

pub released_blocks : (s : Store) (call : Call) (at : At) (file index block : ℕ) (f : Inode) → file_in s file ≡ Some f → 0 < length f.blocks →
    length (blocks_in (store_after s call (entries.Released at file index block)) file) + 1 ≡ length (blocks_in s file)
released_blocks s call at file index block f there some =
    let after : Store = store_after s call (entries.Released at file index block) in
    let new : length (blocks_in after file) ≡ length (take (length f.blocks - 1) f.blocks) =
    ap (λ (l : List ℕ). length l) (blocks-of after file (without_last f) (released_file s call at file index block f there)) in
    let old : length (blocks_in s file) ≡ length f.blocks = ap (λ (l : List ℕ). length l) (blocks-of s file f there) in
    let left : length (take (length f.blocks - 1) f.blocks) ≡ length f.blocks - 1 =
    taken (length f.blocks - 1) f.blocks (omega arith) in
    omega arith
  where
    taken : (n : ℕ) (xs : List ℕ) → n ≤ length xs → length (take n xs) ≡ n
    taken n xs within = length-take-le n xs within
