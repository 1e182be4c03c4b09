-- The tables as a file grows by an entry.
use Rattle.std.proofs.Common.{◌≡◌, ◌≢◌, ℕ, ◌-◌, ◌/◌, ◌%◌, ◌<◌, ◌≤◌, List, [], ◌∷◌, ◌++◌, length, Option, None, Some, is_some, arith, refl, sym, ap, ◌∙◌, subst}
use Rattle.std.specs.Prelude.{slice_get}
use Rattle.std.specs.Option.{option_map, option_map_or, option_to_list}
use Rattle.std.specs.FinMap as fin
use Rattle.std.proofs.lemmas.List.{append-nil, get_or-set_other, get_or-set_same, length-set}
use Rattle.std.proofs.lemmas.Option.{slice_get_past, slice_get_within}
use Rattle.bd_base.specs.declared.journal.At.{At}
use Rattle.bd_base.specs.declared.key.Cell.{Cell}
use Rattle.bd_base.specs.declared.key.Key.{Key}
use Rattle.bd_base.specs.declared.limits.TheConstants.{BLOCK_SIZE, PART_BLOCKS}
use Rattle.bd_base.specs.declared.volume.Inode.{Inode}
use Rattle.bd_base.specs.Files.{limit_of}
use Rattle.bd_base.specs.Inodes.{blocks_of_slot, grown_file, inode_at}
use Rattle.bd_base.proofs.FileLists.{inode_at-set_same, inode_at-within}
use Rattle.bd_entry.specs.declared.entry.Entry.{Entry}
use Rattle.bd_entry.specs.declared.entry.Entry.TheVariants.{Extended}
use Rattle.bd_entry.specs.Calls.{Place}
use Rattle.bd_entry.specs.Effects.{effect_of}
use Rattle.bd_entry.specs.Store.{Store, Valid, blocks_in, file_in, limit_in}
use Rattle.bd_entry.proofs.EffectsOnFiles.{effect_of-files}
use Rattle.bd_file_table.specs.Fragments.{cell_at, with_cell}
use Rattle.bd_tables.specs.Effects.{with_limit}
use Rattle.bd_tables.specs.Kernel.{ReachesUpTo}
use Rattle.bd_tables.specs.Sound.{IsSound}
use Rattle.bd_tables.specs.State.{TableState}
use Rattle.bd_tables.proofs.KernelSound.{put_keeps, raise_keeps}
use Rattle.bd_turns.specs.Sound.{cell_of_block}
use Rattle.bd_turns.specs.Turns.{cell_in, grown_tables}
use Rattle.bd_turns.proofs.CellsOfFiles.{Grown, Grows, KeepsAt, by_block, in_block, cell_of_slot, file_kept, get-last, grows, limit_there}
use Rattle.bd_turns.proofs.CellsOfPairs.{AreCells}
use Rattle.bd_turns.proofs.CellsOfGrowth.{ChangesCell, GrowsFile, cell_if, cell_of_block-is, cells_of_growth, entry_of_block}
use Rattle.bd_turns.proofs.FilesOfRights.{file_of_right}
use Rattle.bd_turns.proofs.RightsFit.{AllFit}

-- ---- the cell of the block

-- the file of an entry that grows it
pub grown_slot : (s : Store) (q : Place) (at : At) (file to : ℕ) (block : Option ℕ) (f : Inode) → file_in s file ≡ Some f →
    file_in (effect_of s q (Extended at file to block)) file ≡ Some (grown_file f block to)
grown_slot s q at file to block f there =
    let e = Extended at file to block in
    let inside = inode_at-within s.files file (ap is_some there) in
    ap (λ (files : List (Option Inode)). inode_at files file) (effect_of-files s q e).files
    ∙ inode_at-set_same s.files file (option_map (λ f. grown_file f block to) (file_in s file)) inside
    ∙ ap (option_map (λ f. grown_file f block to)) there

blocks_by : (s : Store) (file : ℕ) (f : Inode) → file_in s file ≡ Some f → blocks_in s file ≡ f.blocks
blocks_by s file f there = ap blocks_of_slot there

pub limit_by : (s : Store) (file index : ℕ) (f : Inode) → file_in s file ≡ Some f → limit_in s file index ≡ limit_of f.size f.blocks index
limit_by s file index f there =
    ap (λ (slot : Option Inode). limit_of (option_map_or (λ (f : Inode). f.size) slot 0) (blocks_of_slot slot) index) there

put_changes : (index : ℕ) (cell : Cell) (old : Option Cell) → ChangesCell (with_cell (index % PART_BLOCKS) cell) index old (Some cell)
put_changes index cell old = record {
  size = λ cells. length-set cells (index % PART_BLOCKS) (Some cell);
  other = λ cells i miss. get_or-set_other cells (index % PART_BLOCKS) i (Some cell) None miss;
  here = λ cells size is. get_or-set_same cells (index % PART_BLOCKS) (Some cell) None (omega arith);
}

raise_changes : (index limit : ℕ) (old : Option Cell) →
    ChangesCell (with_limit (index % PART_BLOCKS) limit) index old (option_map (λ (cell : Cell). record cell { limit = limit }) old)
raise_changes index limit old = record {
  size = λ cells. length-set cells (index % PART_BLOCKS) (option_map (λ (cell : Cell). record cell { limit = limit }) (cell_at cells (index % PART_BLOCKS)));
  other = λ cells i miss.
      get_or-set_other cells (index % PART_BLOCKS) i
      (option_map (λ (cell : Cell). record cell { limit = limit }) (cell_at cells (index % PART_BLOCKS))) None miss;
  here = λ cells size is.
      get_or-set_same cells (index % PART_BLOCKS)
      (option_map (λ (cell : Cell). record cell { limit = limit }) (cell_at cells (index % PART_BLOCKS))) None (omega arith)
      ∙ ap (option_map (λ (cell : Cell). record cell { limit = limit })) is;
}

-- ---- the tables

-- the cells and the soundness of tables
pub record HaveCells (s : Store) (tables : TableState) : Type 0 where
  pub cells : AreCells tables.rights tables.cells s
  pub sound : IsSound tables

-- after a growth the tables have the new cell
pub tables_of_growth : (s : Store) (p q : Place) (at : At) (file to : ℕ) (block : Option ℕ) (tables : TableState) → Valid s →
    KeepsAt s p (Extended at file to block) → (f : Inode) → file_in s file ≡ Some f → AllFit tables.rights s → HaveCells s tables →
    let t = effect_of s q (Extended at file to block) in HaveCells t (grown_tables t tables file to block)
tables_of_growth s p q at file to block tables valid keeps f there all have = by block refl (grows s p at file to block f valid keeps there)
  where
    e : Entry
    e = Extended at file to block

    t : Store
    t = effect_of s q e

    index : ℕ
    index = (to - 1) / BLOCK_SIZE

    rest : (key : Key) (right : _) → fin.get tables.rights key ≡ Some right → right.file ≢ file → file_in t right.file ≡ file_in s right.file
    rest key right is other =
        let file_is = file_of_right tables.rights s valid all key right is in
        file_kept s p q e right.file keeps tt file_is.0 file_is.1 (λ same. other (sym same))

    slot : file_in t file ≡ Some (grown_file f block to)
    slot = grown_slot s q at file to block f there

    grows_file : Grows f to block → GrowsFile tables.rights s t file index
    grows_file growth = record {
      rest = rest;
      others = λ i miss.
          ap (λ (x : Option Inode). cell_of_slot x i) slot ∙ growth.others i miss ∙ sym (ap (λ (x : Option Inode). cell_of_slot x i) there);
    }

    by : (b : Option ℕ) → block ≡ b → Grows f to block → HaveCells t (grown_tables t tables file to b)
    by None within growth =
        let limit : ℕ = limit_in t file index in
        let how = subst (Grown f to) within growth.how in
        let last = in_last how in
        let inside : index < length f.blocks = slice_get_within f.blocks index last.0 last.1 in
        let blocks : blocks_in t file ≡ f.blocks =
        blocks_by t file (grown_file f block to) slot ∙ ap (λ (b : Option ℕ). f.blocks ++ option_to_list b) within ∙ append-nil f.blocks in
        let old : cell_of_block s file index ≡ Some (cell_in s file index last.0) =
        cell_of_block-is s file index ∙ ap (λ (xs : List ℕ). cell_if s file index (slice_get xs index)) (blocks_by s file f there)
        ∙ ap (cell_if s file index) last.1 in
        let new : cell_of_block t file index ≡ Some (cell_in t file index last.0) =
        cell_of_block-is t file index ∙ ap (λ (xs : List ℕ). cell_if t file index (slice_get xs index)) blocks
        ∙ ap (cell_if t file index) last.1 in
        let raised : option_map (λ (cell : Cell). record cell { limit = limit }) (cell_of_block s file index) ≡ cell_of_block t file index =
        ap (option_map (λ (cell : Cell). record cell { limit = limit })) old ∙ sym new in
        let old_limit : limit_in s file index ≡ limit_of f.size f.blocks index = limit_by s file index f there in
        let new_limit : limit ≡ limit_of to f.blocks index =
        limit_by t file index (grown_file f block to) slot ∙ ap (λ (b : Option ℕ). limit_of to (f.blocks ++ option_to_list b) index) within
        ∙ ap (λ (xs : List ℕ). limit_of to xs index) (append-nil f.blocks) in
        let larger : f.size < to = growth.larger in
        let up : limit_in s file index ≤ limit =
        omega (arith, old_limit, new_limit, limit_there f.size f.blocks index inside, limit_there to f.blocks index inside, larger) in
        record {
          cells =
              cells_of_growth tables.rights tables.cells s t file index (with_limit (index % PART_BLOCKS) limit) (grows_file growth)
              (subst (ChangesCell (with_limit (index % PART_BLOCKS) limit) index (cell_of_block s file index)) raised
              (raise_changes index limit (cell_of_block s file index))) have.cells;
          sound =
              raise_keeps tables have.sound file index limit
              (entry_of_block tables.rights tables.cells s file index have.cells (ReachesUpTo limit) (subst (ReachesUpTo limit) (sym old) up));
        }
      where
        in_last : Grown f to None → (last : ℕ) × (slice_get f.blocks index ≡ Some last)
        in_last (in_block last is count) = (last, is)
    by (Some b) taken growth =
        let how = subst (Grown f to) taken growth.how in
        let at_end : index ≡ length f.blocks = in_new how in
        let cell : Cell = cell_in t file index b in
        let blocks : blocks_in t file ≡ f.blocks ++ b ∷ [] =
        blocks_by t file (grown_file f block to) slot ∙ ap (λ (b : Option ℕ). f.blocks ++ option_to_list b) taken in
        let none : cell_of_block s file index ≡ None =
        cell_of_block-is s file index ∙ ap (λ (xs : List ℕ). cell_if s file index (slice_get xs index)) (blocks_by s file f there)
        ∙ ap (cell_if s file index) (slice_get_past f.blocks index (omega arith)) in
        let new : cell_of_block t file index ≡ Some cell =
        cell_of_block-is t file index ∙ ap (λ (xs : List ℕ). cell_if t file index (slice_get xs index)) blocks
        ∙ ap (cell_if t file index) (get-last f.blocks b index at_end) in
        record {
          cells =
              cells_of_growth tables.rights tables.cells s t file index (with_cell (index % PART_BLOCKS) cell) (grows_file growth)
              (subst (ChangesCell (with_cell (index % PART_BLOCKS) cell) index (cell_of_block s file index)) (sym new)
              (put_changes index cell (cell_of_block s file index))) have.cells;
          sound =
              put_keeps tables have.sound file index cell
              (entry_of_block tables.rights tables.cells s file index have.cells (λ (c : Option Cell). c ≡ None) none);
        }
      where
        in_new : Grown f to (Some b) → index ≡ length f.blocks
        in_new (by_block block is) = is
