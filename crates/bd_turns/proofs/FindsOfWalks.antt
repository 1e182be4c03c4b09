-- What a walk misses for as it enters its key or reads an entry may be noted.
use Rattle.std.proofs.Common.{◌≡◌, ◌≢◌, inl, inr, ℕ, ◌+◌, ◌-◌, ◌*◌, ◌<◌, ◌≤◌, min, cond, nat_le, Bool, true, false, ◌&&◌, not, [], length, Option, None, Some, arith, refl, sym, ap, ◌∙◌, subst}
use Rattle.std.specs.Prelude.{slice_get}
use Rattle.std.specs.List.{list_any}
use Rattle.std.specs.Option.{option_map_or}
use Rattle.std.proofs.lemmas.Bool.{both_ways, cases_lt, false≢true, leb-false}
use Rattle.std.proofs.lemmas.Option.{none-some, same_Some, slice_get_within}
use Rattle.bd_base.specs.declared.journal.Found.{Found}
use Rattle.bd_base.specs.declared.journal.Found.TheVariants.{NoDirectory, NoRight, NoEntry, Beyond}
use Rattle.bd_base.specs.declared.key.Cell.{Cell}
use Rattle.bd_base.specs.declared.key.Key.{Key}
use Rattle.bd_base.specs.declared.limits.TheConstants.{BLOCK_SIZE}
use Rattle.bd_base.specs.declared.script.Mode.{Mode}
use Rattle.bd_base.specs.declared.script.Mode.TheVariants as modes
use Rattle.bd_base.specs.declared.volume.Inode.{Inode}
use Rattle.bd_base.specs.Files.{blocks_for, limit_of}
use Rattle.bd_base.specs.Inodes.{blocks_of_slot}
use Rattle.bd_base.specs.Pieces.{Piece}
use Rattle.bd_entry.specs.RulesOfRights.{MayMiss, MayWrite, part_of}
use Rattle.bd_entry.specs.Store.{Descriptor, Store, Valid, attaches_by, descriptor_at, file_in, has_part, limit_in, size_in, work_of}
use Rattle.bd_entry.proofs.Slots.{some_of}
use Rattle.bd_tables.specs.declared.state.Right.{Right}
use Rattle.bd_tables.specs.declared.state.RightState.{RightState}
use Rattle.bd_tables.specs.declared.state.RightState.TheVariants as states
use Rattle.bd_tables.specs.State.{found_entering, found_reading, found_under}
use Rattle.bd_turns.specs.Sound.{IsRightOf, cell_of_block, is_revoked}
use Rattle.bd_turns.specs.Turns.{may_write}
use Rattle.bd_turns.proofs.CellsOfFiles.{cell_absent, cell_of_slot, cell_there, limit_there, some_at}
use Rattle.bd_turns.proofs.RightsFit.{Fits, key_at}

-- ---- as a walk enters

read_only : (mode : Mode) → may_write mode ≡ false → mode ≡ modes.R
read_only modes.R none = refl
read_only modes.Rw none = absurd (false≢true (sym none))

-- what a revoked right leaves stands no more
not_standing : (s : Store) (key : Key) (writes : Bool) (piece : Piece) (right : Right) (d : Descriptor) → key.part ≡ part_of piece.index →
    IsRightOf key right d → is_revoked right.state ≡ true → MayMiss s writes (Some d) NoDirectory piece
not_standing s key writes piece right d part is revoked =
    λ stands.
    both_ways (has_part (part_of piece.index) d.cleared) stands.not_cleared
    (ap (λ (n : ℕ). has_part n d.cleared) (sym part) ∙ is.cleared ∙ revoked)

found_on : (s : Store) (key : Key) (writes : Bool) (piece : Piece) (right : Right) (d : Descriptor) (found : Found) → key.part ≡ part_of piece.index →
    IsRightOf key right d → (w : Bool) → writes ≡ w → (allowed : Bool) → right.write ≡ allowed →
    cond (w && not allowed) (Some NoRight) None ≡ Some found → MayMiss s writes (Some d) found piece
found_on s key writes piece right d found part is true write false allowed finds =
    subst (λ (f : Found). MayMiss s writes (Some d) f piece) (same_Some NoRight found finds)
    (ap (λ (n : ℕ). has_part n d.attached) (sym part) ∙ is.attached, write, read_only d.mode (sym is.write ∙ allowed))
found_on s key writes piece right d found part is true write true allowed finds = absurd (none-some found finds)
found_on s key writes piece right d found part is false write allowed allowed_is finds = absurd (none-some found finds)

-- what an enter finds
pub enter_finds : (s : Store) (key : Key) (writes : Bool) (piece : Piece) (right : Option Right) (slot : Option Descriptor) (found : Found) →
    key.part ≡ part_of piece.index → Fits key right slot → found_entering right writes ≡ Some found → MayMiss s writes slot found piece
enter_finds s key writes piece None None found part fits finds =
    subst (λ (f : Found). MayMiss s writes None f piece) (same_Some NoDirectory found finds) tt
enter_finds s key writes piece None (Some d) found part fits finds =
    subst (λ (f : Found). MayMiss s writes (Some d) f piece) (same_Some NoDirectory found finds)
    (λ stands. both_ways (has_part (part_of piece.index) d.attached) (ap (λ (n : ℕ). has_part n d.attached) (sym part) ∙ fits) stands.attached)
enter_finds s key writes piece (Some right) None found part fits finds = absurd fits
enter_finds s key writes piece (Some right) (Some d) found part fits finds = by right.state refl finds
  where
    by : (state : RightState) → right.state ≡ state → found_under state right.write writes ≡ Some found → MayMiss s writes (Some d) found piece
    by states.On is finds = found_on s key writes piece right d found part fits writes refl right.write refl finds
    by states.Cleared is finds =
        subst (λ (f : Found). MayMiss s writes (Some d) f piece) (same_Some NoDirectory found finds)
        (not_standing s key writes piece right d part fits (ap is_revoked is))
    by (states.Drained swept) is finds =
        subst (λ (f : Found). MayMiss s writes (Some d) f piece) (same_Some NoDirectory found finds)
        (not_standing s key writes piece right d part fits (ap is_revoked is))

-- ---- as a walk reads an entry

-- the size of a file that has no block there
size_before : (f : Inode) (index : ℕ) → length f.blocks ≡ blocks_for f.size → cell_of_slot (Some f) index ≡ None → f.size ≤ BLOCK_SIZE * index
size_before f index count none = elim (cases_lt index (length f.blocks)) [
  | inl within ↦
      let block = some_at f.blocks index within in
      absurd (none-some _ (sym none ∙ cell_there f index block.0 block.1))
  | inr past ↦ omega arith
]

-- the limit of a block that is there
record IsLimitOf (f : Inode) (index limit : ℕ) : Type 0 where
  within : index < length f.blocks
  is : limit ≡ limit_of f.size f.blocks index

limit_of_cell : (f : Inode) (index : ℕ) (cell : Cell) → cell_of_slot (Some f) index ≡ Some cell → IsLimitOf f index cell.limit
limit_of_cell f index cell is = by (slice_get f.blocks index) refl
  where
    by : (block : Option ℕ) → slice_get f.blocks index ≡ block → IsLimitOf f index cell.limit
    by None none = absurd (none-some cell (sym (cell_absent f index none) ∙ is))
    by (Some block) there = record {
      within = slice_get_within f.blocks index block there;
      is = ap (λ (c : Cell). c.limit) (sym (same_Some _ cell (sym (cell_there f index block there) ∙ is)));
    }

may_write_is : (mode : Mode) → may_write mode ≡ true → mode ≡ modes.Rw
may_write_is modes.R allowed = absurd (false≢true allowed)
may_write_is modes.Rw allowed = refl

writes_allowed : (writes : Bool) (right : Right) (mode : Mode) → right.write ≡ may_write mode → (writes ≡ true → right.write ≡ true) → MayWrite writes mode
writes_allowed true right mode is allowed = may_write_is mode (sym is ∙ allowed refl)
writes_allowed false right mode is allowed = tt

-- the file of a descriptor
file_there : (s : Store) (process fd : ℕ) (d : Descriptor) → Valid s → descriptor_at s process fd ≡ Some d →
    (f : Inode) × (file_in s d.file ≡ Some f) × (length f.blocks ≡ blocks_for f.size)
file_there s process fd d valid there =
    let found = some_of (file_in s d.file) (valid.descriptors process fd d there).of_file in
    (found.0, found.1, (valid.volume.files.valid.each d.file found.0 found.1).enough_blocks)

-- what is known as a walk reads the entry of a block
pub record Reads (s : Store) (process fd : ℕ) (piece : Piece) (writes : Bool) (right : Right) (d : Descriptor) : Type 0 where
  pub valid : Valid s
  pub there : descriptor_at s process fd ≡ Some d
  pub is_right : IsRightOf (key_at process fd (part_of piece.index)) right d
  pub allowed : writes ≡ true → right.write ≡ true
  pub fresh : list_any (attaches_by fd) (work_of s process) ≡ false
  pub in_block : piece.range.hi ≤ BLOCK_SIZE

pub read_finds : (s : Store) (process fd : ℕ) (piece : Piece) (writes : Bool) (right : Right) (d : Descriptor) (found : Found) →
    Reads s process fd piece writes right d →
    found_reading piece.range.hi (cell_of_block s right.file piece.index) ≡ Some found → MayMiss s writes (Some d) found piece
read_finds s process fd piece writes right d found reads finds =
    by (cell_of_slot (Some f) index) refl
    (sym (ap (found_reading hi) (ap (λ (n : ℕ). cell_of_block s n index) file_is ∙ ap (λ (slot : Option Inode). cell_of_slot slot index) the_file.1)) ∙ finds)
  where
    index : ℕ
    index = piece.index

    hi : ℕ
    hi = piece.range.hi

    the_file : (f : Inode) × (file_in s d.file ≡ Some f) × (length f.blocks ≡ blocks_for f.size)
    the_file = file_there s process fd d reads.valid reads.there

    f : Inode
    f = the_file.0

    file_is : right.file ≡ d.file
    file_is = reads.is_right.file

    attached : has_part (part_of index) d.attached ≡ true
    attached = reads.is_right.attached

    some : d.attached ≢ []
    some none = both_ways (has_part (part_of index) d.attached) (ap (has_part (part_of index)) none) attached

    size_is : size_in s d.file ≡ f.size
    size_is = ap (λ (o : Option Inode). option_map_or (λ (f : Inode). f.size) o 0) the_file.1

    known : d.known ≤ size_in s d.file
    known = (reads.valid.descriptors process fd d reads.there).known some reads.fresh

    writable : MayWrite writes d.mode
    writable = writes_allowed writes right d.mode reads.is_right.write reads.allowed

    reaching : (cell : Cell) → cell_of_slot (Some f) index ≡ Some cell → (b : Bool) → nat_le hi cell.limit ≡ b →
        cond b None (Some (Beyond cell.limit)) ≡ Some found →
        MayMiss s writes (Some d) found piece
    reaching cell is true far finds = absurd (none-some found finds)
    reaching cell is false far finds =
        let limit = limit_of_cell f index cell is in
        let below : cell.limit < hi = leb-false hi cell.limit far in
        let inside : index < length f.blocks = limit.within in
        let count : length f.blocks ≡ blocks_for f.size = the_file.2 in
        let limit_is : cell.limit ≡ min BLOCK_SIZE (f.size - BLOCK_SIZE * index) = limit.is ∙ limit_there f.size f.blocks index inside in
        let in_store : limit_in s d.file index ≡ limit_of f.size f.blocks index =
        ap (λ (o : Option Inode). limit_of (option_map_or (λ (f : Inode). f.size) o 0) (blocks_of_slot o) index) the_file.1 in
        let within : cell.limit ≤ limit_in s d.file index = omega (arith, in_store, limit.is) in
        let in_block : hi ≤ BLOCK_SIZE = reads.in_block in
        let few : d.known ≤ BLOCK_SIZE * index + cell.limit = omega (arith, known, size_is) in
        subst (λ (x : Found). MayMiss s writes (Some d) x piece) (same_Some (Beyond cell.limit) found finds)
        (attached, writable, omega arith, below, within, few)

    by : (cell : Option Cell) → cell_of_slot (Some f) index ≡ cell → found_reading hi cell ≡ Some found → MayMiss s writes (Some d) found piece
    by None none finds =
        let small : f.size ≤ BLOCK_SIZE * index = size_before f index the_file.2 none in
        subst (λ (x : Found). MayMiss s writes (Some d) x piece) (same_Some NoEntry found finds)
        (attached, writable, omega (arith, known, size_is))
    by (Some cell) is finds = reaching cell is (nat_le hi cell.limit) refl finds
