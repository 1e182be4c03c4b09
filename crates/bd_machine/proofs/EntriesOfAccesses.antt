-- The entries of accesses of the kernel: the piece, the descriptor, the file and the bytes of each.
use Rattle.std.proofs.Common.{◌≡◌, ℕ, ◌-◌, ◌*◌, ◌<◌, ◌≤◌, min, cond, List, length, Option, None, Some, refl, sym, ap, ◌∙◌, subst, arith}
use Rattle.std.specs.Prelude.{IsTrue, slice_get}
use Rattle.std.specs.Option.{option_and_then, option_map, option_map_or}
use Rattle.std.proofs.lemmas.Option.{same_Some, slice_get_within}
use Rattle.bd_base.specs.declared.journal.At.{At}
use Rattle.bd_base.specs.declared.journal.Way.{Way}
use Rattle.bd_base.specs.declared.limits.TheConstants.{BLOCK_SIZE}
use Rattle.bd_base.specs.declared.script.Call.{Call}
use Rattle.bd_base.specs.declared.volume.Inode.{Inode}
use Rattle.bd_base.specs.Allocation.{is_data_block}
use Rattle.bd_base.specs.Bounds.{Bounds}
use Rattle.bd_base.specs.Files.{blocks_for, limit_of}
use Rattle.bd_base.specs.Inodes.{blocks_of_slot, inode_at}
use Rattle.bd_base.specs.Pieces.{Piece}
use Rattle.bd_entry.specs.declared.act.Act.TheVariants as acts
use Rattle.bd_entry.specs.declared.entry.Entry.{Entry}
use Rattle.bd_entry.specs.declared.entry.Entry.TheVariants as entries
use Rattle.bd_entry.specs.Actions.{access_entry, kernel_entry}
use Rattle.bd_entry.specs.Calls.{Place, bytes_for_piece, does_write, fd_of, piece_of_call}
use Rattle.bd_entry.specs.Refusals.{descriptor_of}
use Rattle.bd_entry.specs.RulesOfContents.{bytes_within}
use Rattle.bd_entry.specs.Store.{Descriptor, Store, Valid, descriptor_at, file_in}
use Rattle.bd_entry.proofs.CallPieces.{All-slice_get}
use Rattle.bd_entry.proofs.NextActs.{map_from, then_from}
use Rattle.bd_entry.proofs.Slots.{some_of}
use Rattle.bd_kernel.specs.Changes.{slot_at}
use Rattle.bd_kernel.specs.Disks.{DiskState}
use Rattle.bd_kernel.proofs.DiskBytes.{within_total}
use Rattle.bd_medium.specs.Contents.{HasBlock}
use Rattle.bd_turns.proofs.CellsOfFiles.{limit_there}
use Rattle.bd_machine.specs.Turns.{AddedAt, IsEntryOf}
use Rattle.bd_machine.proofs.EntriesOfActs.{disk_of_store}

-- the bytes that the kernel moves by a piece of a file: the call's, or what stands there as far as the file goes
abbrev pub moved_bytes : List ℕ → Call → Inode → Piece → List ℕ
moved_bytes bytes call f cut =
    cond (does_write call) (bytes_for_piece call cut)
    (bytes_within bytes (slice_get f.blocks cut.index) cut.range (min BLOCK_SIZE (f.size - BLOCK_SIZE * cut.index)))

-- the entry of an access of the kernel, on a disk
pub record AccessOf (disk : DiskState) (call : Call) (at : At) (fd number : ℕ) (way : Way) (e : Entry) : Type 0 where
  pub cut : Piece
  pub cut_is : piece_of_call call number ≡ Some cut
  pub d : Descriptor
  pub open_is : slot_at disk.rows at.process fd ≡ Some d
  pub f : Inode
  pub file_is : inode_at disk.files d.file ≡ Some f
  pub there : (block : ℕ) → slice_get f.blocks cut.index ≡ Some block → HasBlock disk.bytes block
  pub within : (block : ℕ) → slice_get f.blocks cut.index ≡ Some block → BLOCK_SIZE * cut.index ≤ f.size
  pub entry :
      entries.Access at number fd d.file cut.index (slice_get f.blocks cut.index) cut.range (does_write call) way
      (moved_bytes disk.bytes call f cut) ≡ e

-- a block that is there has the limit that its file's size leaves
bytes-limit : (bytes : List ℕ) (size : ℕ) (blocks : List ℕ) (index : ℕ) (range : Bounds) →
    bytes_within bytes (slice_get blocks index) range (limit_of size blocks index)
    ≡ bytes_within bytes (slice_get blocks index) range (min BLOCK_SIZE (size - BLOCK_SIZE * index))
bytes-limit bytes size blocks index range = by (slice_get blocks index) refl
  where
    by : (slot : Option ℕ) → slice_get blocks index ≡ slot →
        bytes_within bytes (slice_get blocks index) range (limit_of size blocks index)
        ≡ bytes_within bytes (slice_get blocks index) range (min BLOCK_SIZE (size - BLOCK_SIZE * index))
    by None none = rw none refl
    by (Some block) is =
        ap (bytes_within bytes (slice_get blocks index) range) (limit_there size blocks index (slice_get_within blocks index block is))

-- the entry of an access of a file that is there
kernel_entry-is : (s : Store) (p : Place) (fd number : ℕ) (way : Way) (cut : Piece) (d : Descriptor) (f : Inode) → file_in s d.file ≡ Some f →
    entries.Access p.at number fd d.file cut.index (slice_get f.blocks cut.index) cut.range (does_write p.call) way (moved_bytes s.bytes p.call f cut)
    ≡ kernel_entry s p number way fd cut d
kernel_entry-is s p fd number way cut d f there =
    let made : Option Inode → List ℕ → Entry = λ slot bytes.
    entries.Access p.at number fd d.file cut.index (slice_get (blocks_of_slot slot) cut.index) cut.range (does_write p.call) way bytes in
    let bytes : Option Inode → List ℕ = λ slot.
    cond (does_write p.call) (bytes_for_piece p.call cut)
    (bytes_within s.bytes (slice_get (blocks_of_slot slot) cut.index) cut.range
    (limit_of (option_map_or (λ (f : Inode). f.size) slot 0) (blocks_of_slot slot) cut.index)) in
    ap (λ (bs : List ℕ). made (Some f) (cond (does_write p.call) (bytes_for_piece p.call cut) bs))
    (sym (bytes-limit s.bytes f.size f.blocks cut.index cut.range))
    ∙ ap (λ (slot : Option Inode). made slot (bytes slot)) (sym there)

access_in : (s : Store) (p : Place) (fd number : ℕ) (way : Way) (e : Entry) (held : List (Option ℕ)) → Valid s → fd_of p ≡ Some fd →
    access_entry s p number way ≡ Some e →
    AccessOf (record { total = s.total; files = s.files; bytes = s.bytes; rows = s.opens; held = held }) p.call p.at fd number way e
access_in s p fd number way e held valid fd_is is =
    let by_fd =
    then_from
    (λ fd. option_and_then (λ piece. option_map (kernel_entry s p number way fd piece) (descriptor_of s p)) (piece_of_call p.call number))
    (fd_of p) e is in
    let by_piece =
    then_from (λ piece. option_map (kernel_entry s p number way by_fd.0 piece) (descriptor_of s p)) (piece_of_call p.call number) e by_fd.2 in
    let cut : Piece = by_piece.0 in
    let by_open = map_from (kernel_entry s p number way by_fd.0 cut) (descriptor_of s p) e by_piece.2 in
    let d : Descriptor = by_open.0 in
    let opened = then_from (descriptor_at s p.at.process) (fd_of p) d by_open.1 in
    let first : by_fd.0 ≡ fd = same_Some by_fd.0 fd (sym by_fd.1 ∙ fd_is) in
    let second : opened.0 ≡ fd = same_Some opened.0 fd (sym opened.1 ∙ fd_is) in
    let open_is : descriptor_at s p.at.process fd ≡ Some d = ap (descriptor_at s p.at.process) (sym second) ∙ opened.2 in
    let file = some_of (file_in s d.file) (valid.descriptors p.at.process fd d open_is).of_file in
    let f : Inode = file.0 in
    let sound = valid.volume.files.valid.each d.file f file.1 in
    record {
      cut = cut;
      cut_is = by_piece.1;
      d = d;
      open_is = open_is;
      f = f;
      file_is = file.1;
      there = λ block at_index.
          let below : block < s.total =
          within_total s.total (length s.files) block
          (All-slice_get (λ (b : ℕ). IsTrue (is_data_block s.total (length s.files) b)) f.blocks cut.index block sound.in_data_area at_index) in
          let all : length s.bytes ≡ BLOCK_SIZE * s.total = valid.volume.all_bytes in
          omega (arith, below, all);
      within = λ block at_index.
          let inside : cut.index < length f.blocks = slice_get_within f.blocks cut.index block at_index in
          let count : length f.blocks ≡ blocks_for f.size = sound.enough_blocks in
          omega arith;
      entry =
          kernel_entry-is s p fd number way cut d f file.1
          ∙ ap (λ (n : ℕ). kernel_entry s p number way n cut d) (sym first) ∙ by_open.2;
    }

-- what an access is that the kernel adds on a disk
pub access_of : (disk : DiskState) (call : Call) (at : At) (fd number : ℕ) (way : Way) (g : AddedAt) →
    IsEntryOf disk call at (Some fd) (acts.Access number way) g → AccessOf disk call at fd number way g.entry
access_of disk call at fd number way g is =
    let s = g.store in
    let p = g.place in
    let in_store = access_in s p fd number way g.entry disk.held is.valid (sym is.fd_is) is.added in
    let on_disk : AccessOf disk p.call p.at fd number way g.entry =
    subst (λ (d : DiskState). AccessOf d p.call p.at fd number way g.entry) (disk_of_store disk s is.disk_is) in_store in
    subst (λ (a : At). AccessOf disk call a fd number way g.entry) is.at_is
    (subst (λ (c : Call). AccessOf disk c p.at fd number way g.entry) is.call_is on_disk)

-- ---- the steps to it

-- the file of the descriptor is there
pub access_file : (disk : DiskState) (call : Call) (at : At) (fd number : ℕ) (way : Way) (g : AddedAt) (d : Descriptor) →
    IsEntryOf disk call at (Some fd) (acts.Access number way) g → slot_at disk.rows at.process fd ≡ Some d →
    (f : Inode) × (inode_at disk.files d.file ≡ Some f)
access_file disk call at fd number way g d is opened =
    let a = access_of disk call at fd number way g is in
    let same : a.d ≡ d = same_Some a.d d (sym a.open_is ∙ opened) in
    (a.f, ap (λ (it : Descriptor). inode_at disk.files it.file) (sym same) ∙ a.file_is)

-- a block of the piece is there, and begins within the file
pub record IsBlockOf (disk : DiskState) (f : Inode) (cut : Piece) (block : ℕ) : Type 0 where
  pub there : HasBlock disk.bytes block
  pub within : BLOCK_SIZE * cut.index ≤ f.size

pub access_block : (disk : DiskState) (call : Call) (at : At) (fd number : ℕ) (way : Way) (g : AddedAt) (d : Descriptor) (f : Inode) (cut : Piece)
    (block : ℕ) → IsEntryOf disk call at (Some fd) (acts.Access number way) g → slot_at disk.rows at.process fd ≡ Some d →
    inode_at disk.files d.file ≡ Some f → piece_of_call call number ≡ Some cut → slice_get f.blocks cut.index ≡ Some block →
    IsBlockOf disk f cut block
access_block disk call at fd number way g d f cut block is opened there cuts found =
    let a = access_of disk call at fd number way g is in
    let same : a.d ≡ d = same_Some a.d d (sym a.open_is ∙ opened) in
    let file : a.f ≡ f = same_Some a.f f (sym a.file_is ∙ ap (λ (it : Descriptor). inode_at disk.files it.file) same ∙ there) in
    let piece : a.cut ≡ cut = same_Some a.cut cut (sym a.cut_is ∙ cuts) in
    let at_index : slice_get a.f.blocks a.cut.index ≡ Some block =
    ap (λ (x : Inode). slice_get x.blocks a.cut.index) file ∙ ap (λ (x : Piece). slice_get f.blocks x.index) piece ∙ found in
    record {
      there = a.there block at_index;
      within =
          subst (λ (x : Inode). BLOCK_SIZE * cut.index ≤ x.size) file
          (subst (λ (x : Piece). BLOCK_SIZE * x.index ≤ a.f.size) piece (a.within block at_index));
    }
