-- The cells of a part of a file, one after the other.
use Rattle.std.proofs.Common.{◌≡◌, ℕ, zero, suc, ◌+◌, ◌-◌, ◌*◌, ◌<◌, ◌≤◌, min, List, [], ◌∷◌, ◌++◌, get_or, take, drop, length, Option, None, Some, ◌⊎◌, inl, inr, refl, sym, ap, ◌∙◌, subst, arith, ⊎_elim}
use Rattle.std.specs.Prelude.{slice_range}
use Rattle.std.specs.Option.{option_map_or}
use Rattle.std.proofs.Math.Seq.{take-suc}
use Rattle.std.proofs.lemmas.Bool.{cases_lt}
use Rattle.std.proofs.lemmas.List.{get_or-drop, length-drop, length-take}
use Rattle.std.proofs.lemmas.Grind.{get_or_default_zero}
use Rattle.bd_base.specs.declared.key.Cell.{Cell}
use Rattle.bd_base.specs.declared.limits.TheConstants.{BLOCK_SIZE, PART_BLOCKS}
use Rattle.bd_base.specs.declared.volume.Inode.{Inode}
use Rattle.bd_base.specs.Files.{limit_of}
use Rattle.bd_base.specs.Inodes.{blocks_of_slot, inode_at}
use Rattle.bd_entry.specs.Store.{Store, blocks_in, file_in, limit_in}
use Rattle.bd_turns.specs.Turns.{cell_in, cells_from, cells_of_part}
use Rattle.bd_turns.proofs.CellsOfFiles.{limit_there}

-- ---- one cell more

cells_from-push : (s : Store) (file index : ℕ) (blocks : List ℕ) (block : ℕ) →
    cells_from s file index (blocks ++ block ∷ []) ≡ cells_from s file index blocks ++ cell_in s file (index + length blocks) block ∷ []
cells_from-push s file index [] block =
    let here : index ≡ index + 0 = omega arith in
    ap (λ (i : ℕ). cell_in s file i block ∷ []) here
cells_from-push s file index (b ∷ blocks) block =
    let next : index + 1 + length blocks ≡ index + suc (length blocks) = omega arith in
    ap (λ (cells : List Cell). cell_in s file index b ∷ cells) (cells_from-push s file (index + 1) blocks block)
    ∙ ap (λ (i : ℕ). cell_in s file index b ∷ cells_from s file (index + 1) blocks ++ cell_in s file i block ∷ []) next

slice_range-push : (xs : List ℕ) (first i : ℕ) → first ≤ i → i < length xs →
    slice_range xs first (i + 1) ≡ slice_range xs first i ++ get_or xs i 0 ∷ []
slice_range-push xs first i from within =
    let more : i + 1 - first ≡ suc (i - first) = omega arith in
    let rest : i - first < length (drop first xs) = omega (arith, length-drop first xs) in
    let at : first + (i - first) ≡ i = omega arith in
    ap (λ (n : ℕ). take n (drop first xs)) more ∙ take-suc (drop first xs) (i - first) 0 rest
    ∙ ap (λ (x : ℕ). take (i - first) (drop first xs) ++ x ∷ []) (get_or-drop first xs (i - first) 0 ∙ ap (λ (n : ℕ). get_or xs n 0) at)

-- the cell of a block that is there has the limit that its file's size leaves
cell-there : (s : Store) (file index block : ℕ) (f : Inode) → file_in s file ≡ Some f → index < length f.blocks →
    cell_in s file index block ≡ record { block = block; limit = min BLOCK_SIZE (f.size - BLOCK_SIZE * index) }
cell-there s file index block f there within =
    let limit : limit_in s file index ≡ min BLOCK_SIZE (f.size - BLOCK_SIZE * index) =
    ap (λ (slot : Option Inode). limit_of (option_map_or (λ (f : Inode). f.size) slot 0) (blocks_of_slot slot) index) there
    ∙ limit_there f.size f.blocks index within in
    λ i. record { block = block; limit = limit i }

-- with one block more of a file there is one cell more
pub cells_from-step : (s : Store) (file first index : ℕ) (f : Inode) (blocks : List ℕ) (block : ℕ) (cells new : List Cell) (cell : Cell) →
    file_in s file ≡ Some f → blocks ≡ f.blocks → first ≤ index → index < length blocks → block ≡ get_or blocks index block →
    cell ≡ record { block = block; limit = min BLOCK_SIZE (f.size - BLOCK_SIZE * index) } → new ≡ cells ++ cell ∷ [] →
    cells ≡ cells_from s file first (slice_range blocks first index) →
    new ≡ cells_from s file first (slice_range blocks first (index + 1))
cells_from-step s file first index f blocks block cells new cell there its from within block_is cell_is pushed so_far =
    let count : first + length (slice_range blocks first index) ≡ index =
    omega (arith, length-take (index - first) (drop first blocks), length-drop first blocks) in
    let here : get_or blocks index 0 ≡ block = sym (get_or_default_zero blocks index block within) ∙ sym block_is in
    let inside : index < length f.blocks = subst (λ (xs : List ℕ). index < length xs) its within in
    let next : cell_in s file (first + length (slice_range blocks first index)) (get_or blocks index 0) ≡ cell =
    ap (λ (i : ℕ). cell_in s file i (get_or blocks index 0)) count ∙ ap (cell_in s file index) here
    ∙ cell-there s file index block f there inside ∙ sym cell_is in
    pushed ∙ ap (λ (front : List Cell). front ++ cell ∷ []) so_far
    ∙ ap (λ (c : Cell). cells_from s file first (slice_range blocks first index) ++ c ∷ []) (sym next)
    ∙ sym (cells_from-push s file first (slice_range blocks first index) (get_or blocks index 0))
    ∙ ap (cells_from s file first) (sym (slice_range-push blocks first index from within))

-- ---- all cells of a part

-- two stores with the same files have the same cells
cells_from-same : (s t : Store) (file index : ℕ) (blocks : List ℕ) → s.files ≡ t.files → cells_from s file index blocks ≡ cells_from t file index blocks
cells_from-same s t file index [] same = refl
cells_from-same s t file index (block ∷ blocks) same =
    let limit : limit_in s file index ≡ limit_in t file index =
    ap (λ (files : List (Option Inode)). limit_in (record t { files = files }) file index) same in
    ap (λ (n : ℕ). record { block = block; limit = n } ∷ cells_from s file (index + 1) blocks) limit
    ∙ ap (λ (cells : List Cell). cell_in t file index block ∷ cells) (cells_from-same s t file (index + 1) blocks same)

pub cells_of_part-same : (s t : Store) (file part : ℕ) → s.files ≡ t.files → cells_of_part s file part ≡ cells_of_part t file part
cells_of_part-same s t file part same =
    let first : ℕ = PART_BLOCKS * part in
    ap (λ (files : List (Option Inode)). cells_from s file first (slice_range (blocks_of_slot (inode_at files file)) first (first + PART_BLOCKS))) same
    ∙ cells_from-same s t file first (slice_range (blocks_in t file) first (first + PART_BLOCKS)) same

-- a list is all that is taken of it, where enough is
take_all : (xs : List ℕ) (n : ℕ) → length xs ≤ n → take n xs ≡ xs
take_all [] zero few = refl
take_all [] (suc n) few = refl
take_all (x ∷ xs) zero few = absurd (let none : suc (length xs) ≤ 0 = few in omega arith)
take_all (x ∷ xs) (suc n) few = ap (λ (ys : List ℕ). x ∷ ys) (take_all xs n (let less : suc (length xs) ≤ suc n = few in omega arith))

drop_all : (xs : List ℕ) (n : ℕ) → length xs ≤ n → drop n xs ≡ []
drop_all [] zero few = refl
drop_all [] (suc n) few = refl
drop_all (x ∷ xs) zero few = absurd (let none : suc (length xs) ≤ 0 = few in omega arith)
drop_all (x ∷ xs) (suc n) few = drop_all xs n (let less : suc (length xs) ≤ suc n = few in omega arith)

none_taken : (n : ℕ) → take {A = ℕ} n [] ≡ []
none_taken n = take_all [] n (omega arith)

-- the part ends where the file does
slice-end : (blocks : List ℕ) (first : ℕ) → first ≤ length blocks →
    slice_range blocks first (min (length blocks) (first + PART_BLOCKS)) ≡ slice_range blocks first (first + PART_BLOCKS)
slice-end blocks first from =
    let left : length (drop first blocks) ≡ length blocks - first = length-drop first blocks in
    ⊎_elim
    (λ short.
    let ends : min (length blocks) (first + PART_BLOCKS) - first ≡ length blocks - first = omega arith in
    let all : first + PART_BLOCKS - first ≡ PART_BLOCKS = omega arith in
    ap (λ (n : ℕ). take n (drop first blocks)) ends ∙ take_all (drop first blocks) (length blocks - first) (omega arith)
    ∙ sym (take_all (drop first blocks) PART_BLOCKS (omega arith)) ∙ ap (λ (n : ℕ). take n (drop first blocks)) (sym all))
    (λ long.
    let ends : min (length blocks) (first + PART_BLOCKS) - first ≡ first + PART_BLOCKS - first = omega arith in
    ap (λ (n : ℕ). take n (drop first blocks)) ends)
    (cases_lt (length blocks) (first + PART_BLOCKS))

-- the cells of the blocks from the part's first to its end, as far as the file goes, are those of the part
cells_of_file : (s t : Store) (file part first end : ℕ) (f : Inode) → file_in t file ≡ Some f → s.files ≡ t.files →
    first ≡ min (length f.blocks) (PART_BLOCKS * part) → end ≡ min (length f.blocks) (first + PART_BLOCKS) →
    cells_from t file first (slice_range f.blocks first end) ≡ cells_of_part s file part
cells_of_file s t file part first end f there same first_is end_is =
    by (cases_lt (length f.blocks) (PART_BLOCKS * part)) ∙ sym (cells_of_part-same s t file part same)
  where
    start : ℕ
    start = PART_BLOCKS * part

    blocks : blocks_in t file ≡ f.blocks
    blocks = ap blocks_of_slot there

    by : (length f.blocks < PART_BLOCKS * part) ⊎ (PART_BLOCKS * part ≤ length f.blocks) →
        cells_from t file first (slice_range f.blocks first end) ≡ cells_of_part t file part
    by (inl past) =
        let at_end : first ≡ length f.blocks = omega arith in
        let nothing : drop first f.blocks ≡ [] = drop_all f.blocks first (omega arith) in
        let nothing_there : drop start f.blocks ≡ [] = drop_all f.blocks start (omega arith) in
        ap (λ (xs : List ℕ). cells_from t file first (take (end - first) xs)) nothing ∙ ap (cells_from t file first) (none_taken (end - first))
        ∙ sym (ap (λ (xs : List ℕ). cells_from t file start (take (start + PART_BLOCKS - start) (drop start xs))) blocks
        ∙ ap (λ (xs : List ℕ). cells_from t file start (take (start + PART_BLOCKS - start) xs)) nothing_there
        ∙ ap (cells_from t file start) (none_taken (start + PART_BLOCKS - start)))
    by (inr inside) =
        let here : first ≡ start = omega arith in
        ap (λ (n : ℕ). cells_from t file first (slice_range f.blocks first n)) end_is
        ∙ ap (cells_from t file first) (slice-end f.blocks first (omega arith))
        ∙ ap (λ (n : ℕ). cells_from t file n (slice_range f.blocks n (n + PART_BLOCKS))) here
        ∙ ap (λ (xs : List ℕ). cells_from t file start (slice_range xs start (start + PART_BLOCKS))) (sym blocks)

-- the same of cells that were made one after the other
pub cells_of_all : (s t : Store) (file part number first end index : ℕ) (f : Inode) (blocks : List ℕ) (cells : List Cell) → file_in t file ≡ Some f →
    s.files ≡ t.files → blocks ≡ f.blocks → number ≡ part → first ≡ min (length blocks) (PART_BLOCKS * number) →
    end ≡ min (length blocks) (first + PART_BLOCKS) → end ≤ index → (first ≤ end → index ≤ end) →
    cells ≡ cells_from t file first (slice_range blocks first index) → cells ≡ cells_of_part s file part
cells_of_all s t file part number first end index f blocks cells there same its asked first_is end_is past before are =
    let stops : index ≤ end = before (omega arith) in
    let at_end : index ≡ end = omega arith in
    let count : length blocks ≡ length f.blocks = ap (λ (xs : List ℕ). length xs) its in
    are ∙ ap (λ (n : ℕ). cells_from t file first (slice_range blocks first n)) at_end
    ∙ ap (λ (xs : List ℕ). cells_from t file first (slice_range xs first end)) its
    ∙ cells_of_file s t file part first end f there same (omega arith) (omega arith)

-- a file that is not there has no cells
pub no_cells : (s : Store) (file part : ℕ) → file_in s file ≡ None → cells_of_part s file part ≡ []
no_cells s file part gone =
    let none : blocks_in s file ≡ [] = ap blocks_of_slot gone in
    let first : ℕ = PART_BLOCKS * part in
    ap (λ (xs : List ℕ). cells_from s file first (slice_range xs first (first + PART_BLOCKS))) none
    ∙ ap (λ (xs : List ℕ). cells_from s file first (take (first + PART_BLOCKS - first) xs)) (drop_all [] first (omega arith))
    ∙ ap (cells_from s file first) (none_taken (first + PART_BLOCKS - first))
