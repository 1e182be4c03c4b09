-- An attach asks of the tables what holds there: its key is free, its cells are those of the file's blocks, and there is a fragment.
use Rattle.std.proofs.Common.{◌≡◌, ℕ, ◌+◌, ◌-◌, ◌*◌, ◌/◌, ◌%◌, ◌<◌, ◌≤◌, min, Bool, false, not, get_or, drop, suc, List, [], ◌∷◌, length, map, Option, None, Some, is_some, refl, sym, ap, ◌∙◌, subst, arith}
use Rattle.std.specs.Prelude.{slice_get, slice_range, All, IfSome}
use Rattle.std.specs.Option.{option_map, option_map_or}
use Rattle.std.specs.List.{range_with_len}
use Rattle.std.specs.FinMap as fin
use Rattle.std.proofs.lemmas.Bool.{not-true}
use Rattle.std.proofs.lemmas.List.{ext_get_or, length-drop, length-take}
use Rattle.std.proofs.lemmas.List.Elements.{All-cons, All-nil}
use Rattle.std.proofs.lemmas.Option.{same_Some}
use Rattle.bd_base.specs.declared.journal.At.{At}
use Rattle.bd_base.specs.declared.key.Cell.{Cell}
use Rattle.bd_base.specs.declared.limits.TheConstants.{BLOCK_SIZE, PART_BLOCKS}
use Rattle.bd_base.specs.declared.volume.Inode.{Inode}
use Rattle.bd_base.specs.Files.{blocks_for, limit_of}
use Rattle.bd_base.specs.Inodes.{blocks_of_slot}
use Rattle.bd_base.specs.Keys.{Pair}
use Rattle.bd_base.proofs.Ranges.{find-range_lowest}
use Rattle.bd_entry.specs.declared.entry.Entry.{Entry}
use Rattle.bd_entry.specs.declared.entry.Entry.TheVariants.{Attached}
use Rattle.bd_entry.specs.Calls.{Place}
use Rattle.bd_entry.specs.Rules.{Rights as RightsRule}
use Rattle.bd_entry.specs.Store.{Descriptor, Store, blocks_in, descriptor_at, file_in, has_part, limit_in, lowest_unattached, parts_in}
use Rattle.bd_entry.proofs.EffectsOnFiles.{effect_of-files}
use Rattle.bd_entry.proofs.Slots.{some_of}
use Rattle.bd_kernel.specs.Changes.{Rows, slot_at}
use Rattle.bd_machine.specs.declared.parts.Parts.{Parts}
use Rattle.bd_machine.specs.Turns.{CanChangeTables, TableChange}
use Rattle.bd_machine.proofs.CellsOfParts.{cells_of_part-same}
use Rattle.bd_machine.proofs.TableChanges.{Changes, SeesTablesOf, changes, kernel_sees}
use Rattle.bd_machine.proofs.TableChangesOfPairs.{not_full}
use Rattle.bd_tables.specs.Effects as effects
use Rattle.bd_tables.specs.Kernel.{AgreesWith, HasLimit, IsFullFor, KernelState}
use Rattle.bd_tables.specs.Plain.{cells_of, its_cells}
use Rattle.bd_tables.specs.Seen.{IsKernelOf}
use Rattle.bd_tables.specs.State.{Rights, TableState}
use Rattle.bd_tables.proofs.Places.{get-cells_of}
use Rattle.bd_turns.specs.Turns.{attached_tables, cell_in, cells_from, cells_of_part, may_write, tables_after}
use Rattle.bd_turns.proofs.CellsOfFiles.{limit_there}
use Rattle.bd_turns.proofs.CellsOfGrowth.{padded-size, part_cells-look}
use Rattle.bd_turns.proofs.CellsOfPairs.{AreCells, cells_of_used}
use Rattle.bd_turns.proofs.RightsFit.{key_at}
use Rattle.bd_turns.proofs.RightsKept.{attached_there}
use Rattle.bd_turns.proofs.TablesOfEntries.{unattached}
use Rattle.bd_tables.specs.declared.sides.Tables as sides

-- ---- the cells of a part

cells_from-count : (s : Store) (file index : ℕ) (blocks : List ℕ) → length (cells_from s file index blocks) ≡ length blocks
cells_from-count s file index [] = refl
cells_from-count s file index (block ∷ blocks) =
    let rest : length (cells_from s file (index + 1) blocks) ≡ length blocks = cells_from-count s file (index + 1) blocks in
    omega arith

part-count : (s : Store) (file part : ℕ) → length (cells_of_part s file part) ≤ PART_BLOCKS
part-count s file part =
    let first : ℕ = PART_BLOCKS * part in
    let blocks : List ℕ = slice_range (blocks_in s file) first (first + PART_BLOCKS) in
    let count : length (cells_of_part s file part) ≡ length blocks = cells_from-count s file first blocks in
    omega (arith, count, length-take (first + PART_BLOCKS - first) (drop first (blocks_in s file)))

-- a block of a file has at least a byte within the file
cell-limit : (s : Store) (file index block : ℕ) (f : Inode) → file_in s file ≡ Some f → length f.blocks ≡ blocks_for f.size → index < length f.blocks →
    HasLimit (cell_in s file index block)
cell-limit s file index block f there enough within =
    let limit : limit_in s file index ≡ min BLOCK_SIZE (f.size - BLOCK_SIZE * index) =
    ap (λ (slot : Option Inode). limit_of (option_map_or (λ (f : Inode). f.size) slot 0) (blocks_of_slot slot) index) there
    ∙ limit_there f.size f.blocks index within in
    (omega arith, omega arith)

cells_from-limits : (s : Store) (file index : ℕ) (blocks : List ℕ) (f : Inode) → file_in s file ≡ Some f → length f.blocks ≡ blocks_for f.size →
    length blocks ≤ length f.blocks - index → All HasLimit (cells_from s file index blocks)
cells_from-limits s file index [] f there enough few = All-nil HasLimit
cells_from-limits s file index (block ∷ blocks) f there enough few =
    let more : suc (length blocks) ≤ length f.blocks - index = few in
    All-cons HasLimit (cell_in s file index block) (cells_from s file (index + 1) blocks)
    (cell-limit s file index block f there enough (omega arith))
    (cells_from-limits s file (index + 1) blocks f there enough (omega arith))

part-limits : (s : Store) (file part : ℕ) (f : Inode) → file_in s file ≡ Some f → length f.blocks ≡ blocks_for f.size →
    All HasLimit (cells_of_part s file part)
part-limits s file part f there enough =
    let first : ℕ = PART_BLOCKS * part in
    let blocks : blocks_in s file ≡ f.blocks = ap blocks_of_slot there in
    let same : length (blocks_in s file) ≡ length f.blocks = ap (λ (xs : List ℕ). length xs) blocks in
    cells_from-limits s file first (slice_range (blocks_in s file) first (first + PART_BLOCKS)) f there enough
    (omega (arith, same, length-take (first + PART_BLOCKS - first) (drop first (blocks_in s file)), length-drop first (blocks_in s file)))

-- ---- the tables have these cells already, where they have the pair

agrees : (rights : Rights) (kernel : KernelState) (s : Store) (file part : ℕ) → AreCells rights (cells_of kernel.book) s →
    AgreesWith kernel.book (record { file = file; part = part }) (cells_of_part s file part)
agrees rights kernel s file part are = by (fin.get kernel.book pair) refl
  where
    pair : Pair
    pair = record { file = file; part = part }

    cells : List Cell
    cells = cells_of_part s file part

    by : (o : Option _) → fin.get kernel.book pair ≡ o → IfSome o (λ fragment. fragment.cells ≡ map (slice_get cells) (range_with_len 0 PART_BLOCKS))
    by None none = tt
    by (Some fragment) is =
        let there : fin.get (cells_of kernel.book) pair ≡ Some fragment.cells = get-cells_of kernel.book pair ∙ ap (option_map its_cells) is in
        let has = cells_of_used rights (cells_of kernel.book) s are pair (ap is_some there) in
        let its : has.its ≡ fragment.cells = same_Some has.its fragment.cells (sym has.there ∙ there) in
        let size : length has.its ≡ PART_BLOCKS = has.size in
        let padded_size : length (map (slice_get cells) (range_with_len 0 PART_BLOCKS)) ≡ PART_BLOCKS = padded-size cells in
        sym its
        ∙ ext_get_or None has.its (map (slice_get cells) (range_with_len 0 PART_BLOCKS)) (size ∙ sym padded_size)
        (λ k within.
        let index : ℕ = PART_BLOCKS * part + k in
        let below : k < 512 = omega arith in
        let of_part : index / PART_BLOCKS ≡ part = omega arith in
        let at : index % PART_BLOCKS ≡ k = omega arith in
        ap (λ (n : ℕ). get_or has.its n None) (sym at) ∙ has.looks index of_part ∙ sym (part_cells-look s file part index of_part)
        ∙ ap (λ (n : ℕ). get_or (map (slice_get cells) (range_with_len 0 PART_BLOCKS)) n None) at)

-- ---- the key

-- the lowest part that is not attached is not attached
unattached_part : (s : Store) (d : Descriptor) (part : ℕ) → lowest_unattached s d ≡ Some part → has_part part d.attached ≡ false
unattached_part s d part lowest =
    let found = find-range_lowest (λ part. not (has_part part d.attached)) 0 (parts_in s d.file) part lowest in
    not-true (has_part part d.attached) found.passes

-- ---- all of it

-- what an attach asks of the tables, and what it leaves
pub record Attaching {T M P : Type 0} (kernel : KernelState) (x : Parts T M P) (g : TableChange) (at : At) (fd part : ℕ) (cells : List Cell) :
    Type 0 where
  pub d : Descriptor
  pub open_is : slot_at x.disk.rows at.process fd ≡ Some d
  pub not_attached : fin.get kernel.rights (key_at at.process fd part) ≡ None
  pub room : length cells ≤ PART_BLOCKS
  pub limits : All HasLimit cells
  pub agree : AgreesWith kernel.book (record { file = d.file; part = part }) cells
  pub not_full : IsFullFor kernel.book (record { file = d.file; part = part }) → ⊥
  pub after : (t : TableState) →
      tables_after g.after t (Attached at fd part)
      ≡ effects.attach t (key_at at.process fd part) d.file (may_write d.mode) cells

pub attaching : {T M P : Type 0} {K : sides.Ghosts T P} (kernel : KernelState) (x : Parts T M P) (g : TableChange) (at : At) (fd part : ℕ)
    (cells : List Cell) → IsKernelOf kernel g.before.tables → CanChangeTables K x g (Attached at fd part) cells →
    Attaching kernel x g at fd part cells
attaching kernel x g at fd part cells seen can =
    let e : Entry = Attached at fd part in
    let known : Changes x g e cells = changes x g e cells can in
    let s : Store = g.before.store in
    let p : Place = known.place in
    let rights = known.keeps RightsRule in
    let old : Descriptor = rights.0 in
    let process_is : at.process ≡ p.at.process = ap (λ (a : At). a.process) known.added.at_is in
    let there : descriptor_at s at.process fd ≡ Some old = ap (λ (n : ℕ). descriptor_at s n fd) process_is ∙ rights.1 in
    let made = attached_there s p at fd part old there in
    let d : Descriptor = made.0 in
    let after_there : descriptor_at g.after at.process fd ≡ Some d = ap (λ (t : Store). descriptor_at t at.process fd) known.after ∙ made.1 in
    let file_is : d.file ≡ old.file = made.2.file in
    let files : g.after.files ≡ s.files = ap (λ (t : Store). t.files) known.after ∙ (effect_of-files s p e).files in
    let cells_is : cells ≡ cells_of_part g.after d.file part = can.cells_are d after_there in
    let same_cells : cells_of_part s old.file part ≡ cells =
    sym (cells_is ∙ ap (λ (n : ℕ). cells_of_part g.after n part) file_is ∙ cells_of_part-same g.after s old.file part files) in
    let file = some_of (file_in s old.file) (known.valid.descriptors at.process fd old there).of_file in
    let enough : length file.0.blocks ≡ blocks_for file.0.size = (known.valid.volume.files.valid.each old.file file.0 file.1).enough_blocks in
    let sees : SeesTablesOf s kernel = kernel_sees s kernel g.before.tables seen known.tables in
    record {
      d = d;
      open_is = ap (λ (rows : Rows). slot_at rows at.process fd) (sym can.disk.opens) ∙ after_there;
      not_attached = unattached kernel.rights s at.process fd part old sees.fit there (unattached_part s old part rights.2.0);
      room = subst (λ (cs : List Cell). length cs ≤ PART_BLOCKS) same_cells (part-count s old.file part);
      limits = subst (All HasLimit) same_cells (part-limits s old.file part file.0 file.1 enough);
      agree =
          subst (λ (n : ℕ). AgreesWith kernel.book (record { file = n; part = part }) cells) (sym file_is)
          (subst (AgreesWith kernel.book (record { file = old.file; part = part })) same_cells
          (agrees kernel.rights kernel s old.file part sees.cells));
      not_full = λ full.
          not_full kernel.rights kernel s old.file part sees.fit sees.cells rights.2.1
          (subst (λ (n : ℕ). IsFullFor kernel.book (record { file = n; part = part })) file_is full);
      after = λ t.
          ap (λ (o : Option Descriptor). option_map_or (attached_tables g.after t at.process fd part) o t) after_there
          ∙ ap (effects.attach t (key_at at.process fd part) d.file (may_write d.mode)) (sym cells_is);
    }

-- what an attach on this file, in this mode, asks of the tables and leaves
pub record AttachingTo (kernel : KernelState) (g : TableChange) (e : Entry) (at : At) (fd part file : ℕ) (write : Bool) (cells : List Cell) :
    Type 0 where
  pub not_attached : fin.get kernel.rights (key_at at.process fd part) ≡ None
  pub room : length cells ≤ PART_BLOCKS
  pub limits : All HasLimit cells
  pub agree : AgreesWith kernel.book (record { file = file; part = part }) cells
  pub not_full : IsFullFor kernel.book (record { file = file; part = part }) → ⊥
  pub after : (t : TableState) →
      effects.attach t (key_at at.process fd part) file write cells ≡ tables_after g.after t e

-- the same of the entry by its own name
an_attach : {T M P : Type 0} {K : sides.Ghosts T P} (x : Parts T M P) (g : TableChange) (e : Entry) (cells : List Cell) (at : At)
    (fd part : ℕ) → CanChangeTables K x g e cells → e ≡ Attached at fd part → CanChangeTables K x g (Attached at fd part) cells
an_attach {K = K} x g e cells at fd part can is = subst (λ (y : Entry). CanChangeTables K x g y cells) is can

-- the descriptor of an attach is open
pub attach_open : {T M P : Type 0} {K : sides.Ghosts T P} (kernel : KernelState) (x : Parts T M P) (g : TableChange) (e : Entry)
    (cells : List Cell) (at : At) (fd part : ℕ) → IsKernelOf kernel g.before.tables → CanChangeTables K x g e cells →
    e ≡ Attached at fd part → (d : Descriptor) × (slot_at x.disk.rows at.process fd ≡ Some d)
attach_open kernel x g e cells at fd part seen can is =
    let known = attaching kernel x g at fd part cells seen (an_attach x g e cells at fd part can is) in (known.d, known.open_is)

pub attaching_to : {T M P : Type 0} {K : sides.Ghosts T P} (kernel : KernelState) (x : Parts T M P) (g : TableChange) (e : Entry)
    (cells : List Cell) (at : At) (fd part : ℕ) (d : Descriptor) (file : ℕ) (write : Bool) → IsKernelOf kernel g.before.tables →
    CanChangeTables K x g e cells → e ≡ Attached at fd part → slot_at x.disk.rows at.process fd ≡ Some d → file ≡ d.file → write ≡ may_write d.mode →
    AttachingTo kernel g e at fd part file write cells
attaching_to kernel x g e cells at fd part d file write seen can is opened file_is write_is =
    let known = attaching kernel x g at fd part cells seen (an_attach x g e cells at fd part can is) in
    let same : known.d ≡ d = same_Some known.d d (sym known.open_is ∙ opened) in
    let its : known.d.file ≡ file = ap (λ (it : Descriptor). it.file) same ∙ sym file_is in
    let mode : may_write known.d.mode ≡ write = ap (λ (it : Descriptor). may_write it.mode) same ∙ sym write_is in
    let key = key_at at.process fd part in
    record {
      not_attached = known.not_attached;
      room = known.room;
      limits = known.limits;
      agree = subst (λ (n : ℕ). AgreesWith kernel.book (record { file = n; part = part }) cells) its known.agree;
      not_full = λ full. known.not_full (subst (λ (n : ℕ). IsFullFor kernel.book (record { file = n; part = part })) (sym its) full);
      after = λ t.
          sym (ap (tables_after g.after t) is ∙ known.after t
          ∙ ap (λ (n : ℕ). effects.attach t key n (may_write known.d.mode) cells) its
          ∙ ap (λ (b : Bool). effects.attach t key file b cells) mode);
    }
