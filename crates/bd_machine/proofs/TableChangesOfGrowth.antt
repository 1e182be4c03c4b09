-- A growth asks of the tables what holds there: the entry of a new block is empty, and that of the last block reaches less far.
use Rattle.std.proofs.Common.{◌≡◌, ℕ, ◌-◌, ◌*◌, ◌/◌, ◌%◌, ◌<◌, ◌≤◌, List, [], ◌∷◌, ◌++◌, length, Option, None, Some, sym, ap, ◌∙◌, subst, arith}
use Rattle.std.specs.Prelude.{slice_get, slice_index_or, IfSome}
use Rattle.std.specs.Option.{option_map, option_to_list}
use Rattle.std.specs.FinMap as fin
use Rattle.std.proofs.lemmas.List.{length-append}
use Rattle.std.proofs.lemmas.Option.{slice_get_past, slice_get_within}
use Rattle.bd_base.specs.declared.journal.At.{At}
use Rattle.bd_base.specs.declared.key.Cell.{Cell}
use Rattle.bd_base.specs.declared.limits.TheConstants.{BLOCK_SIZE, FILE_SIZE, PART_BLOCKS}
use Rattle.bd_base.specs.declared.volume.Inode.{Inode}
use Rattle.bd_base.specs.Files.{limit_of}
use Rattle.bd_base.specs.Inodes.{blocks_of_slot, grown_file}
use Rattle.bd_entry.specs.declared.entry.Entry.{Entry}
use Rattle.bd_entry.specs.declared.entry.Entry.TheVariants.{Extended}
use Rattle.bd_entry.specs.Calls.{Place}
use Rattle.bd_entry.specs.Refusals.{goal_of}
use Rattle.bd_entry.specs.Rules.{NotRefused, RightBlock, WithinLimit}
use Rattle.bd_entry.specs.Store.{Store, blocks_in, file_in, limit_in}
use Rattle.bd_entry.proofs.SoundVolumes.{GrowsTo, grows_to}
use Rattle.bd_machine.specs.declared.parts.Parts.{Parts}
use Rattle.bd_machine.specs.Turns.{CanChangeTables, TableChange}
use Rattle.bd_machine.proofs.TableChanges.{Changes, SeesTablesOf, changes, kernel_sees}
use Rattle.bd_tables.specs.Kernel.{IsEmptyEntry, IsEntryUpTo, KernelState, ReachesUpTo}
use Rattle.bd_tables.specs.Effects as effects
use Rattle.bd_tables.specs.Plain.{cells_of, its_cells}
use Rattle.bd_tables.specs.Seen.{IsKernelOf}
use Rattle.bd_tables.specs.State.{Rights, TableState, block_pair}
use Rattle.bd_tables.proofs.Places.{get-cells_of}
use Rattle.bd_turns.specs.Sound.{cell_of_block}
use Rattle.bd_turns.specs.Turns.{cell_in, tables_after}
use Rattle.bd_turns.proofs.CellsOfFiles.{Grown, Grows, by_block, grows, in_block, limit_there}
use Rattle.bd_turns.proofs.CellsOfGrowth.{cell_if, cell_of_block-is, entry_of_block}
use Rattle.bd_turns.proofs.CellsOfPairs.{AreCells}
use Rattle.bd_turns.proofs.TablesOfGrowth.{grown_slot, limit_by}
use Rattle.bd_tables.specs.declared.sides.Tables as sides

-- the last block of a file that grew is there
last_there : (f : Inode) (to : ℕ) (block : Option ℕ) → Grown f to block → (to - 1) / BLOCK_SIZE < length (f.blocks ++ option_to_list block)
last_there f to (Some block) (by_block same at_end) = omega (arith, at_end, length-append f.blocks (block ∷ []))
last_there f to None (in_block last is count) = omega (arith, count, length-append f.blocks [])

-- what holds of the cells of a pair that is in use holds of those of its fragment
of_fragment : {X Y : Type 0} (f : X → Y) (o : Option X) (P : Y → Type 0) → IfSome (option_map f o) P → IfSome o (λ x. P (f x))
of_fragment f None P holds = tt
of_fragment f (Some x) P holds = holds

-- what holds of a block of a file holds of its entry, where its part is in use
entry_holds : (rights : Rights) (kernel : KernelState) (s : Store) (file index : ℕ) → AreCells rights (cells_of kernel.book) s →
    (P : Option Cell → Type 0) → P (cell_of_block s file index) →
    IfSome (fin.get kernel.book (block_pair file index)) (λ fragment. P (slice_index_or fragment.cells (index % PART_BLOCKS) None))
entry_holds rights kernel s file index are P holds =
    of_fragment its_cells (fin.get kernel.book (block_pair file index)) (λ its. P (slice_index_or its (index % PART_BLOCKS) None))
    (subst (λ (o : Option _). IfSome o (λ its. P (slice_index_or its (index % PART_BLOCKS) None))) (get-cells_of kernel.book (block_pair file index))
    (entry_of_block rights (cells_of kernel.book) s file index are P holds))

-- what a growth asks of the tables
pub record Growing (kernel : KernelState) (g : TableChange) (file to : ℕ) (block : Option ℕ) : Type 0 where
  pub some : 1 ≤ to
  pub few : to ≤ FILE_SIZE
  pub limit : limit_in g.after file ((to - 1) / BLOCK_SIZE) ≡ to - BLOCK_SIZE * ((to - 1) / BLOCK_SIZE)
  pub empty : (b : ℕ) → block ≡ Some b → IsEmptyEntry kernel.book file ((to - 1) / BLOCK_SIZE)
  pub filled : block ≡ None → IsEntryUpTo kernel.book file ((to - 1) / BLOCK_SIZE) (to - BLOCK_SIZE * ((to - 1) / BLOCK_SIZE))

pub growing : {T M P : Type 0} {K : sides.Ghosts T P} (kernel : KernelState) (x : Parts T M P) (g : TableChange) (at : At)
    (file to : ℕ) (block : Option ℕ) (cells : List Cell) → IsKernelOf kernel g.before.tables →
    CanChangeTables K x g (Extended at file to block) cells → Growing kernel g file to block
growing kernel x g at file to block cells seen can = record {
  some = let larger : f.size < to = growth.larger in omega arith;
  few = far.fits;
  limit =
      let larger : f.size < to = growth.larger in
      limit_by g.after file index (grown_file f block to) (ap (λ (t : Store). file_in t file) known.after ∙ grown_slot s p at file to block f there)
      ∙ limit_there to (f.blocks ++ option_to_list block) index (last_there f to block growth.how) ∙ omega arith;
  empty = λ b is. new_entry b (subst (Grown f to) is growth.how);
  filled = λ is. old_entry (subst (Grown f to) is growth.how);
}
  where
    known : Changes x g (Extended at file to block) cells
    known = changes x g (Extended at file to block) cells can

    s : Store
    s = g.before.store

    p : Place
    p = known.place

    sees : SeesTablesOf s kernel
    sees = kernel_sees s kernel g.before.tables seen known.tables

    index : ℕ
    index = (to - 1) / BLOCK_SIZE

    f : Inode
    f = (known.keeps RightBlock).0

    there : file_in s file ≡ Some f
    there = (known.keeps RightBlock).1

    growth : Grows f to block
    growth = grows s p at file to block f known.valid known.keeps there

    far : GrowsTo s f to
    far = grows_to s file f to (goal_of s p) there (known.keeps WithinLimit) (known.keeps NotRefused).1

    blocks : blocks_in s file ≡ f.blocks
    blocks = ap blocks_of_slot there

    new_entry : (b : ℕ) → Grown f to (Some b) → IsEmptyEntry kernel.book file index
    new_entry b (by_block same at_end) =
        let none : cell_of_block s file index ≡ None =
        cell_of_block-is s file index ∙ ap (λ (xs : List ℕ). cell_if s file index (slice_get xs index)) blocks
        ∙ ap (cell_if s file index) (slice_get_past f.blocks index (omega arith)) in
        entry_holds kernel.rights kernel s file index sees.cells (λ (c : Option Cell). c ≡ None) none

    old_entry : Grown f to None → IsEntryUpTo kernel.book file index (to - BLOCK_SIZE * index)
    old_entry (in_block last is count) =
        let larger : f.size < to = growth.larger in
        let inside : index < length f.blocks = slice_get_within f.blocks index last is in
        let old : cell_of_block s file index ≡ Some (cell_in s file index last) =
        cell_of_block-is s file index ∙ ap (λ (xs : List ℕ). cell_if s file index (slice_get xs index)) blocks ∙ ap (cell_if s file index) is in
        let limit : limit_in s file index ≡ limit_of f.size f.blocks index = limit_by s file index f there in
        let up : limit_in s file index ≤ to - BLOCK_SIZE * index = omega (arith, limit, limit_there f.size f.blocks index inside, larger) in
        entry_holds kernel.rights kernel s file index sees.cells (ReachesUpTo (to - BLOCK_SIZE * index))
        (subst (ReachesUpTo (to - BLOCK_SIZE * index)) (sym old) up)

-- the same of the entry by its own name
pub growing_of : {T M P : Type 0} {K : sides.Ghosts T P} (kernel : KernelState) (x : Parts T M P) (g : TableChange) (e : Entry)
    (cells : List Cell) (at : At) (file to : ℕ) (block : Option ℕ) → IsKernelOf kernel g.before.tables → CanChangeTables K x g e cells →
    e ≡ Extended at file to block → Growing kernel g file to block
growing_of {K = K} kernel x g e cells at file to block seen can is =
    growing kernel x g at file to block cells seen (subst (λ (y : Entry). CanChangeTables K x g y cells) is can)

-- the tables after a growth by this block
pub grown_by_block : (kernel : KernelState) (g : TableChange) (e : Entry) (at : At) (file to : ℕ) (block : Option ℕ) (b : ℕ) →
    Growing kernel g file to block → e ≡ Extended at file to block → block ≡ Some b → (t : TableState) →
    let index : ℕ = (to - 1) / BLOCK_SIZE in
    effects.put_entry t file index (record { block = b; limit = to - BLOCK_SIZE * index }) ≡ tables_after g.after t e
grown_by_block kernel g e at file to block b grown is taken t =
    let index : ℕ = (to - 1) / BLOCK_SIZE in
    let limit = grown.limit in
    ap (λ (n : ℕ). effects.put_entry t file index (record { block = b; limit = n })) (sym limit)
    ∙ sym (ap (tables_after g.after t) (is ∙ ap (Extended at file to) taken))

-- and after one within the last block
pub grown_in_block : (kernel : KernelState) (g : TableChange) (e : Entry) (at : At) (file to : ℕ) (block : Option ℕ) →
    Growing kernel g file to block → e ≡ Extended at file to block → block ≡ None → (t : TableState) →
    let index : ℕ = (to - 1) / BLOCK_SIZE in
    effects.raise_limit t file index (to - BLOCK_SIZE * index) ≡ tables_after g.after t e
grown_in_block kernel g e at file to block grown is none t =
    let index : ℕ = (to - 1) / BLOCK_SIZE in
    let limit = grown.limit in
    ap (effects.raise_limit t file index) (sym limit)
    ∙ sym (ap (tables_after g.after t) (is ∙ ap (Extended at file to) none))
