-- The bytes of a file, cut at its size: a range within a block of them is that range of the block, as far as the file goes.
use Rattle.std.proofs.Common.{◌≡◌, ℕ, zero, suc, ◌+◌, ◌-◌, ◌*◌, ◌<◌, ◌≤◌, min, List, [], ◌∷◌, ◌++◌, length, take, drop, Option, None, Some, sym, ap, ◌∙◌, arith, ⊎_elim}
use Rattle.std.specs.Prelude.{nat_lt, slice_get, slice_range, All}
use Rattle.std.specs.List.{flat_map, splice}
use Rattle.std.proofs.lemmas.Bool.{cases_lt, cond-true, lt-ltb}
use Rattle.std.proofs.lemmas.List.{drop-append-le, drop-drop, drop-take, drop_all, length-drop, length-take, length-take-le, take-append-le, take-take, take_all}
use Rattle.std.proofs.Math.Seq.{drop-append-add, drop-append_seam, take-append_seam}
use Rattle.std.proofs.lemmas.List.Elements.{All-head, All-tail}
use Rattle.std.proofs.lemmas.Option.{none-some, same_Some, slice_get-get_or, slice_get_within}
use Rattle.bd_base.specs.declared.limits.TheConstants.{BLOCK_SIZE}
use Rattle.bd_base.specs.Bounds.{Bounds}
use Rattle.bd_base.specs.Files.{limit_of}
use Rattle.bd_entry.specs.RulesOfContents.{bytes_within}

-- ---- ranges of lists

-- a range of the first elements is as many of those from its begin on as there are
pub slice_range-take : {X : Type 0} (n x y : ℕ) (xs : List X) → slice_range (take n xs) x y ≡ take (min y n - x) (drop x xs)
slice_range-take n x y xs =
    ⊎_elim
    (λ past.
    let none : drop x (take n xs) ≡ [] = drop_all x (take n xs) (omega (arith, length-take n xs)) in
    let zero_left : min y n - x ≡ 0 = omega arith in
    ap (take (y - x)) none ∙ take_all (y - x) [] (omega arith) ∙ sym (ap (λ m. take m (drop x xs)) zero_left))
    (λ within.
    let left = n - x in
    let all : x + left ≡ n = omega arith in
    let rest : drop x (take n xs) ≡ take left (drop x xs) = ap (λ m. drop x (take m xs)) (sym all) ∙ drop-take x left xs in
    ap (take (y - x)) rest
    ∙ ⊎_elim
    (λ short.
    let count : left ≡ min y n - x = omega arith in
    take_all (y - x) (take left (drop x xs)) (omega (arith, length-take left (drop x xs))) ∙ ap (λ m. take m (drop x xs)) count)
    (λ enough.
    let count : y - x ≡ min y n - x = omega arith in
    take-take (y - x) left (drop x xs) enough ∙ ap (λ m. take m (drop x xs)) count)
    (cases_lt left (y - x)))
    (cases_lt n x)

-- what was put in a place stands there
pub splice-reads : {X : Type 0} (xs : List X) (place : ℕ) (new : List X) → place ≤ length xs →
    slice_range (splice xs place (place + length new) new) place (place + length new) ≡ new
splice-reads xs place new within =
    let front = take place xs in
    let rest = drop (place + length new) xs in
    let at : length front ≡ place = length-take-le place xs within in
    let count : place + length new - place ≡ length new = omega arith in
    ap (λ m. take m (drop place (front ++ (new ++ rest)))) count
    ∙ ap (λ m. take (length new) (drop m (front ++ (new ++ rest)))) (sym at)
    ∙ ap (take (length new)) (drop-append_seam front (new ++ rest))
    ∙ take-append_seam new rest

-- ---- blocks

-- the bytes of a block
abbrev pub block_bytes : List ℕ → ℕ → List ℕ
block_bytes bytes block = slice_range bytes (BLOCK_SIZE * block) (BLOCK_SIZE * block + BLOCK_SIZE)

-- a block below the total has all its bytes
pub block_bytes-length : (bytes : List ℕ) (total block : ℕ) → length bytes ≡ BLOCK_SIZE * total → block < total →
    length (block_bytes bytes block) ≡ BLOCK_SIZE
block_bytes-length bytes total block all below =
    omega (arith, length-take (BLOCK_SIZE * block + BLOCK_SIZE - BLOCK_SIZE * block) (drop (BLOCK_SIZE * block) bytes), length-drop (BLOCK_SIZE * block) bytes)

-- some bytes of a block from lo on
block_bytes-range : (bytes : List ℕ) (block lo m : ℕ) → lo + m ≤ BLOCK_SIZE →
    take m (drop lo (block_bytes bytes block)) ≡ take m (drop (BLOCK_SIZE * block + lo) bytes)
block_bytes-range bytes block lo m within =
    let rest = drop (BLOCK_SIZE * block) bytes in
    let count : BLOCK_SIZE * block + BLOCK_SIZE - BLOCK_SIZE * block ≡ lo + (BLOCK_SIZE - lo) = omega arith in
    let enough : m ≤ BLOCK_SIZE - lo = omega arith in
    ap (λ n. take m (drop lo (take n rest))) count
    ∙ ap (take m) (drop-take lo (BLOCK_SIZE - lo) rest)
    ∙ take-take m (BLOCK_SIZE - lo) (drop lo rest) enough
    ∙ ap (take m) (drop-drop lo (BLOCK_SIZE * block) bytes)

-- the piece of a block has all its bytes
abbrev IsWhole : (ℕ → List ℕ) → ℕ → Type 0
IsWhole pieces block = length (pieces block) ≡ BLOCK_SIZE

-- a range within a block of those of a file is that range of the block
blocks-range : (pieces : ℕ → List ℕ) (blocks : List ℕ) (index block lo m : ℕ) → All (IsWhole pieces) blocks →
    slice_get blocks index ≡ Some block → lo + m ≤ BLOCK_SIZE →
    take m (drop (BLOCK_SIZE * index + lo) (flat_map pieces blocks)) ≡ take m (drop lo (pieces block))
blocks-range pieces [] index block lo m whole is within = absurd (none-some block is)
blocks-range pieces (b ∷ blocks) zero block lo m whole is within =
    let size : length (pieces b) ≡ BLOCK_SIZE = All-head (IsWhole pieces) b blocks whole in
    let rest = flat_map pieces blocks in
    let at : BLOCK_SIZE * 0 + lo ≡ lo = omega arith in
    ap (λ n. take m (drop n (pieces b ++ rest))) at
    ∙ ap (take m) (drop-append-le lo (pieces b) rest (omega arith))
    ∙ take-append-le m (drop lo (pieces b)) rest (omega (arith, length-drop lo (pieces b)))
    ∙ ap (λ (x : ℕ). take m (drop lo (pieces x))) (same_Some b block is)
blocks-range pieces (b ∷ blocks) (suc index) block lo m whole is within =
    let size : length (pieces b) ≡ BLOCK_SIZE = All-head (IsWhole pieces) b blocks whole in
    let rest = flat_map pieces blocks in
    let at : BLOCK_SIZE * suc index + lo ≡ length (pieces b) + (BLOCK_SIZE * index + lo) = omega arith in
    ap (λ n. take m (drop n (pieces b ++ rest))) at
    ∙ ap (take m) (drop-append-add (pieces b) rest (BLOCK_SIZE * index + lo))
    ∙ blocks-range pieces blocks index block lo m (All-tail (IsWhole pieces) b blocks whole) is within

-- ---- the content of a file

-- the bytes of a file of these blocks and this size
abbrev pub bytes_of_file : List ℕ → List ℕ → ℕ → List ℕ
bytes_of_file bytes blocks size = take size (flat_map (block_bytes bytes) blocks)

-- a range within a block of a file, as far as the file goes, is that range of its bytes
pub content-range : (bytes blocks : List ℕ) (size index : ℕ) (range : Bounds) → All (λ b. length (block_bytes bytes b) ≡ BLOCK_SIZE) blocks →
    size ≤ BLOCK_SIZE * length blocks → range.hi ≤ BLOCK_SIZE → (slot : Option ℕ) → slice_get blocks index ≡ slot →
    bytes_within bytes slot range (limit_of size blocks index)
    ≡ slice_range (bytes_of_file bytes blocks size) (BLOCK_SIZE * index + range.lo) (BLOCK_SIZE * index + range.hi)
content-range bytes blocks size index range whole fits in_block None is =
    let from = BLOCK_SIZE * index + range.lo in
    let to = BLOCK_SIZE * index + range.hi in
    ⊎_elim
    (λ within. absurd (none-some _ (sym is ∙ slice_get-get_or blocks index 0 within)))
    (λ past.
    let none_left : min to size - from ≡ 0 = omega arith in
    sym (slice_range-take size from to (flat_map (block_bytes bytes) blocks)
    ∙ ap (λ m. take m (drop from (flat_map (block_bytes bytes) blocks))) none_left))
    (cases_lt index (length blocks))
content-range bytes blocks size index range whole fits in_block (Some block) is =
    let from = BLOCK_SIZE * index + range.lo in
    let to = BLOCK_SIZE * index + range.hi in
    let count = min to size - from in
    let limit : limit_of size blocks index ≡ min BLOCK_SIZE (size - BLOCK_SIZE * index) =
    cond-true (nat_lt index (length blocks)) _ _ (lt-ltb index (length blocks) (slice_get_within blocks index block is)) in
    let same : BLOCK_SIZE * block + min range.hi (limit_of size blocks index) - (BLOCK_SIZE * block + range.lo) ≡ count = omega arith in
    ap (λ m. take m (drop (BLOCK_SIZE * block + range.lo) bytes)) same
    ∙ ⊎_elim
    (λ some.
    sym (blocks-range (block_bytes bytes) blocks index block range.lo count whole is (omega arith)
    ∙ block_bytes-range bytes block range.lo count (omega arith)))
    (λ none.
    let zero_left : count ≡ 0 = omega arith in
    ap (λ m. take m (drop (BLOCK_SIZE * block + range.lo) bytes)) zero_left
    ∙ sym (ap (λ m. take m (drop from (flat_map (block_bytes bytes) blocks))) zero_left))
    (cases_lt 0 count)
    ∙ sym (slice_range-take size from to (flat_map (block_bytes bytes) blocks))
