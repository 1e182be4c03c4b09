-- The cells of pairs as a file grows, and those that an attach hands in.
use Rattle.std.proofs.Common.{◌≡◌, ◌≢◌, ◌⊎◌, inl, inr, ℕ, zero, suc, ◌+◌, ◌-◌, ◌*◌, ◌/◌, ◌%◌, ◌<◌, Bool, true, false, List, [], ◌∷◌, length, take, drop, Option, None, Some, is_some, arith, refl, sym, ap, ◌∙◌, subst, ⊎_elim}
use Rattle.std.specs.Prelude.{slice_get, slice_range, IfSome}
use Rattle.std.specs.Option.{option_map}
use Rattle.std.specs.FinMap as fin
use Rattle.std.proofs.lemmas.Bool.{both_ways, cases_Bool, cases_eq}
use Rattle.std.proofs.lemmas.List.FromFn.{get_or-map-range_with_len, length-map-range_with_len}
use Rattle.std.proofs.lemmas.Option.{none-some, same_Some}
use Rattle.bd_base.specs.declared.key.Cell.{Cell}
use Rattle.bd_base.specs.declared.key.Key.{Key}
use Rattle.bd_base.specs.declared.limits.TheConstants.{PART_BLOCKS}
use Rattle.bd_base.specs.Keys.{Pair, pair_cmp_total, same_pair, same_pair-is}
use Rattle.bd_entry.specs.Store.{Store, blocks_in, file_in}
use Rattle.bd_file_table.specs.Fragments.{Cells, cell_at, padded}
use Rattle.bd_tables.specs.declared.state.Right.{Right}
use Rattle.bd_tables.specs.Effects.{change}
use Rattle.bd_tables.specs.State.{CellMap, Rights, block_pair, pair_under}
use Rattle.bd_tables.proofs.Maps.{get-change}
use Rattle.bd_turns.specs.Sound.{cell_of_block}
use Rattle.bd_turns.specs.Turns.{cell_in, cells_from, cells_of_part}
use Rattle.bd_turns.proofs.CellsOfFiles.{cells_by_slot}
use Rattle.bd_turns.proofs.CellsOfPairs.{AreCells, HasCells, cells_of_used, tied_pair}

-- ---- a growth

-- a change of the cells of the pair of a block: that of the block is the file's, and the others stay
pub record ChangesCell (f : Cells → Cells) (index : ℕ) (old new : Option Cell) : Type 0 where
  pub size : (cells : Cells) → length (f cells) ≡ length cells
  pub other : (cells : Cells) (i : ℕ) → i ≢ index % PART_BLOCKS → cell_at (f cells) i ≡ cell_at cells i
  pub here : (cells : Cells) → length cells ≡ PART_BLOCKS → cell_at cells (index % PART_BLOCKS) ≡ old →
      cell_at (f cells) (index % PART_BLOCKS) ≡ new

-- the files with rights after a growth of one: the others are the same, and of that one all cells but one
pub record GrowsFile (rights : Rights) (s t : Store) (file index : ℕ) : Type 0 where
  pub rest : (key : Key) (right : Right) → fin.get rights key ≡ Some right → right.file ≢ file → file_in t right.file ≡ file_in s right.file
  pub others : (i : ℕ) → i ≢ index → cell_of_block t file i ≡ cell_of_block s file i

pub cells_of_growth : (rights : Rights) (cells : CellMap) (s t : Store) (file index : ℕ) (f : Cells → Cells) → GrowsFile rights s t file index →
    ChangesCell f index (cell_of_block s file index) (cell_of_block t file index) → AreCells rights cells s →
    AreCells rights (change cells (block_pair file index) f) t
cells_of_growth rights cells s t file index f grows changes are = record {
  all = λ key right is. of_pair key right is (cases_Bool (same_pair (pair_under key right) (block_pair file index)));
  used = λ pair there.
      are.used pair
      (get-change pair_cmp_total cells (block_pair file index) f pair (λ v. fin.contains_key cells pair ≡ is_there v)
      (λ other. refl) (λ its at same. ap is_there (ap (fin.get cells) (same_pair-is pair (block_pair file index) same) ∙ at)) (λ none. refl) ∙ there);
}
  where
    is_there : Option Cells → Bool
    is_there None = false
    is_there (Some cells) = true

    after : CellMap
    after = change cells (block_pair file index) f

    -- the cells of the grown block's pair
    of_block : (pair : Pair) → pair ≡ block_pair file index → HasCells cells s pair → (its : Cells) → fin.get cells pair ≡ Some its →
        fin.get after pair ≡ Some (f its) →
        HasCells after t pair
    of_block pair same has its was is =
        let one : has.its ≡ its = same_Some has.its its (sym has.there ∙ was) in
        let size : length its ≡ PART_BLOCKS = ap length (sym one) ∙ has.size in
        let part : pair.part ≡ index / PART_BLOCKS = ap (λ (p : Pair). p.part) same in
        let of_file : pair.file ≡ file = ap (λ (p : Pair). p.file) same in
        let looks = λ (i : ℕ) (of_part : i / PART_BLOCKS ≡ pair.part).
        ap (λ (c : Cells). cell_at c (i % PART_BLOCKS)) (sym one) ∙ has.looks i of_part
        ∙ ap (λ (n : ℕ). cell_of_block s n i) of_file in
        record {
          its = f its;
          there = is;
          size = changes.size its ∙ size;
          looks = λ i of_part.
              elim (cases_eq i index) [
                | inl hit ↦
                    ap (λ (n : ℕ). cell_at (f its) (n % PART_BLOCKS)) hit
                    ∙ changes.here its size (ap (λ (n : ℕ). cell_at its (n % PART_BLOCKS)) (sym hit) ∙ looks i of_part ∙ ap (cell_of_block s file) hit)
                    ∙ ap (cell_of_block t file) (sym hit)
                    ∙ ap (λ (n : ℕ). cell_of_block t n i) (sym of_file)
                | inr miss ↦
                    changes.other its (i % PART_BLOCKS) (λ alike. miss (omega arith))
                    ∙ looks i of_part
                    ∙ sym (grows.others i miss)
                    ∙ ap (λ (n : ℕ). cell_of_block t n i) (sym of_file)
              ];
        }

    -- the cells of another pair
    of_other : (key : Key) (right : Right) → fin.get rights key ≡ Some right → HasCells cells s (pair_under key right) →
        ¬ (pair_under key right ≡ block_pair file index) → fin.get after (pair_under key right) ≡ fin.get cells (pair_under key right) →
        HasCells after t (pair_under key right)
    of_other key right is has differs same = record {
      its = has.its;
      there = same ∙ has.there;
      size = has.size;
      looks = λ i of_part. has.looks i of_part ∙
          elim (cases_eq right.file file) [
            | inl of_file ↦
                let miss : i ≢ index = λ hit.
                differs (λ j. record { file = of_file j; part = (sym of_part ∙ ap (λ (n : ℕ). n / PART_BLOCKS) hit) j }) in
                ap (λ (n : ℕ). cell_of_block s n i) of_file ∙ sym (grows.others i miss) ∙ ap (λ (n : ℕ). cell_of_block t n i) (sym of_file)
            | inr other ↦ sym (cells_by_slot t s right.file right.file i (grows.rest key right is other))
          ];
    }

    of_pair : (key : Key) (right : Right) → fin.get rights key ≡ Some right →
        (same_pair (pair_under key right) (block_pair file index) ≡ true) ⊎ (same_pair (pair_under key right) (block_pair file index) ≡ false) →
        HasCells after t (pair_under key right)
    of_pair key right is cases =
        let pair = pair_under key right in
        let has = are.all key right is in
        let differs : same_pair pair (block_pair file index) ≡ false → ¬ (pair ≡ block_pair file index) =
        λ other same. both_ways (same_pair pair (block_pair file index)) other
        (subst (λ (p : Pair). same_pair p (block_pair file index) ≡ true) (sym same) (tied_pair (block_pair file index))) in
        get-change pair_cmp_total cells (block_pair file index) f pair
        (λ v. fin.get after pair ≡ v → HasCells after t pair)
        (λ other there. of_other key right is has (differs other) there)
        (λ its at same there.
        of_block pair (same_pair-is pair (block_pair file index) same) has its
        (ap (fin.get cells) (same_pair-is pair (block_pair file index) same) ∙ at) there)
        (λ none there.
        ⊎_elim
        (λ same. absurd (none-some has.its (sym (ap (fin.get cells) (same_pair-is pair (block_pair file index) same) ∙ none) ∙ has.there)))
        (λ other. of_other key right is has (differs other) there) cases)
        refl

-- the entry of a block that is in use says what the file has there
pub entry_of_block : (rights : Rights) (cells : CellMap) (s : Store) (file index : ℕ) → AreCells rights cells s →
    (P : Option Cell → Type 0) → P (cell_of_block s file index) →
    IfSome (fin.get cells (block_pair file index)) (λ its. P (cell_at its (index % PART_BLOCKS)))
entry_of_block rights cells s file index are P holds = by (fin.get cells (block_pair file index)) refl
  where
    by : (slot : Option Cells) → fin.get cells (block_pair file index) ≡ slot → IfSome slot (λ its. P (cell_at its (index % PART_BLOCKS)))
    by None is = tt
    by (Some its) is =
        let has = cells_of_used rights cells s are (block_pair file index) (ap is_some is) in
        let one : has.its ≡ its = same_Some has.its its (sym has.there ∙ is) in
        subst P (sym (ap (λ (c : Cells). cell_at c (index % PART_BLOCKS)) (sym one) ∙ has.looks index refl)) holds

-- ---- the cells of a part

-- the cell that a slot of blocks has there
abbrev pub cell_if : Store → ℕ → ℕ → Option ℕ → Option Cell
cell_if s file index block = option_map (cell_in s file index) block

get-taken : (n : ℕ) (xs : List ℕ) (i : ℕ) → i < n → slice_get (take n xs) i ≡ slice_get xs i
get-taken zero xs i within = absurd (let none : i < 0 = within in omega arith)
get-taken (suc n) [] i within = refl
get-taken (suc n) (x ∷ xs) zero within = refl
get-taken (suc n) (x ∷ xs) (suc i) within = get-taken n xs i (let less : suc i < suc n = within in omega arith)

get-dropped : (n : ℕ) (xs : List ℕ) (i : ℕ) → slice_get (drop n xs) i ≡ slice_get xs (n + i)
get-dropped zero xs i = ap (slice_get xs) (let same : i ≡ 0 + i = omega arith in same)
get-dropped (suc n) [] i = refl
get-dropped (suc n) (x ∷ xs) i =
    get-dropped n xs i ∙ ap (slice_get (x ∷ xs)) (let same : suc (n + i) ≡ suc n + i = omega arith in same)

cells_from-at : (s : Store) (file first : ℕ) (blocks : List ℕ) (j : ℕ) →
    slice_get (cells_from s file first blocks) j ≡ cell_if s file (first + j) (slice_get blocks j)
cells_from-at s file first [] j = refl
cells_from-at s file first (block ∷ blocks) zero =
    ap (λ (n : ℕ). Some (cell_in s file n block)) (let same : first ≡ first + 0 = omega arith in same)
cells_from-at s file first (block ∷ blocks) (suc j) =
    cells_from-at s file (first + 1) blocks j
    ∙ ap (λ (n : ℕ). cell_if s file n (slice_get blocks j)) (let same : first + 1 + j ≡ first + suc j = omega arith in same)

-- the cell of a block of a file
pub cell_of_block-is : (s : Store) (file index : ℕ) → cell_of_block s file index ≡ cell_if s file index (slice_get (blocks_in s file) index)
cell_of_block-is s file index = by (slice_get (blocks_in s file) index) refl
  where
    by : (block : Option ℕ) → slice_get (blocks_in s file) index ≡ block → cell_of_block s file index ≡ cell_if s file index block
    by None is = rw is refl
    by (Some block) is = rw is refl

pub padded-size : (new : List Cell) → length (padded new) ≡ PART_BLOCKS
padded-size new = length-map-range_with_len (slice_get new) 0 PART_BLOCKS

-- an attach hands in the cells of the part
pub part_cells-look : (s : Store) (file part index : ℕ) → index / PART_BLOCKS ≡ part →
    cell_at (padded (cells_of_part s file part)) (index % PART_BLOCKS) ≡ cell_of_block s file index
part_cells-look s file part index of_part =
    let j : ℕ = index % PART_BLOCKS in
    let first : ℕ = PART_BLOCKS * part in
    let within : j < PART_BLOCKS = omega arith in
    let at : first + j ≡ index = omega arith in
    let count : first + PART_BLOCKS - first ≡ PART_BLOCKS = omega arith in
    let blocks = blocks_in s file in
    get_or-map-range_with_len (slice_get (cells_of_part s file part)) 0 PART_BLOCKS j j None within (omega arith)
    ∙ cells_from-at s file first (slice_range blocks first (first + PART_BLOCKS)) j
    ∙ ap (cell_if s file (first + j))
    (ap (λ (n : ℕ). slice_get (take n (drop first blocks)) j) count ∙ get-taken PART_BLOCKS (drop first blocks) j within ∙ get-dropped first blocks j)
    ∙ ap (λ (n : ℕ). cell_if s file n (slice_get blocks n)) at
    ∙ sym (cell_of_block-is s file index)
