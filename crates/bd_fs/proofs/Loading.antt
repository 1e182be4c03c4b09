-- The parts of a file system as they are made, file by file and block by block.
use Rattle.std.proofs.Common.{All, IsTrue, ◌≡◌, ℕ, zero, suc, ◌+◌, ◌-◌, ◌<◌, ◌≤◌, Bool, true, false, not, cond}
use Rattle.std.proofs.Common.{◌&&◌, ◌||◌, nat_eq, nat_lt, nat_le, List, [], ◌∷◌, ◌++◌, length, take, map}
use Rattle.std.proofs.Common.{position, count_by, slice_set, slice_get, add-one, add-zero, Option, None, Some}
use Rattle.std.proofs.Common.{arith, refl, sym, ap, ◌∙◌, inl, inr, subst, get_or, get_or-set_same}
use Rattle.std.proofs.Common.{get_or-set_other}
use Rattle.std.specs.FinSet as set
use Rattle.std.specs.Str.{bytes_eq}
use Rattle.std.specs.Cmp.Lexicographic.{bytes_decides, nat_list_eq_equiv}
use Rattle.std.specs.Ordering.{nat_cmp}
use Rattle.std.specs.List.{position_or_len}
use Rattle.std.specs.Option.{option_or}
use Rattle.std.proofs.lemmas.Bool.{cases_eq, cases_lt, cases_Bool, cond-true, cond-false, eq-eqb, ne_eqb}
use Rattle.std.proofs.lemmas.Bool.{lt-ltb, le-ltb, lt-leb, le-leb, and_from, and_left, and_parts, and_right}
use Rattle.std.proofs.lemmas.Bool.{ltb-true}
use Rattle.std.proofs.lemmas.List.{take_more, take_all, length-take, map_more, get_or-take, length_push}
use Rattle.std.proofs.lemmas.List.Sums.{sum_by_push, prefix_len-le-length}
use Rattle.std.proofs.lemmas.List.Folds.{position_or_len_push}
use Rattle.bd_base.specs.declared.volume.Inode.{Inode}
use Rattle.bd_base.specs.Allocation.{is_data_block, is_free_block, last_block, times_listed}
use Rattle.bd_base.specs.Files.{data_start}
use Rattle.bd_base.specs.Extents.{extents_of, is_extent_start}
use Rattle.bd_base.specs.Inodes.{NamesDiffer, block_lists, blocks_of_slot, has_name, id_of, inode_at, is_free}
use Rattle.bd_extents.specs.FreeBlocks.{FreeBlocks}
use Rattle.bd_extents.proofs.Marks.{contains-insert_nat, contains-remove_nat}
use Rattle.bd_fs.specs.Kept.{is_none_of}
use Rattle.bd_base.proofs.Counts.{count_by-push, one_if, one_if-le, one_if-same, one_if-other}
use Rattle.bd_base.proofs.Lists.{last_block-push}
use Rattle.bd_base.proofs.ExtentCounts.{extent_count-push}
use Rattle.bd_base.proofs.FileLists.{Named, has_name-Named, position-nowhere}

-- ---- counts of extents

pub extent_count-le : (bs : List ℕ) (i : ℕ) → length (extents_of (take i bs)) ≤ i
extent_count-le bs zero = omega arith
extent_count-le bs (suc i) =
    elim (cases_lt i (length bs)) [
      | inl inside ↦
          let one : length (extents_of (take (i + 1) bs))
          ≡ length (extents_of (take i bs)) + one_if
          (is_extent_start (last_block (take i bs)) (get_or bs i 0)) = one_more bs i inside in
          let same : take (suc i) bs ≡ take (i + 1) bs = ap (λ n. take n bs) (sym (add-one i)) in
          rw same (omega (arith, one, extent_count-le bs i, one_if-le (is_extent_start (last_block (take i bs)) (get_or bs i 0))))
      | inr past ↦
          let same : take (suc i) bs ≡ take i bs = take_all (suc i) bs (omega arith) ∙ sym (take_all i bs past) in
          rw same (omega (arith, extent_count-le bs i))
    ]
  where
    one_more : (bs : List ℕ) (i : ℕ) → i < length bs → length (extents_of (take (i + 1) bs))
        ≡ length (extents_of (take i bs)) + one_if (is_extent_start (last_block (take i bs)) (get_or bs i 0))
    one_more bs i inside = ap (λ l. length (extents_of l)) (take_more bs i 0 inside) ∙ extent_count-push (take i bs) (get_or bs i 0)

-- one more block, whether or not it begins an extent
module _ (bs : List ℕ) (i x : ℕ) (inside : i < length bs) (read : x ≡ get_or bs i x) where
  taken : take (i + 1) bs ≡ take i bs ++ x ∷ []
  taken = take_more bs i x inside ∙ ap (λ y. take i bs ++ y ∷ []) (sym read)

  pub extent_count-more : (last : Option ℕ) (count : ℕ) → last ≡ last_block (take i bs)
      → count ≡ length (extents_of (take i bs)) → count + one_if (is_extent_start last x)
      ≡ length (extents_of (take (i + 1) bs))
  extent_count-more last count last_is count_is =
      sym (ap (λ l. length (extents_of l)) taken ∙ extent_count-push (take i bs) x
      ∙ (λ j. sym count_is j + one_if (is_extent_start (sym last_is j) x)))

  pub last_block-more : Some x ≡ last_block (take (i + 1) bs)
  last_block-more = sym (ap last_block taken ∙ last_block-push (take i bs) x)

-- ---- blocks that files have

-- one more block that is removed
pub removed-more : (s : set.FinSet nat_cmp) (before : ℕ → Bool) (blocks : List ℕ) (i x : ℕ) → i < length blocks → x ≡ get_or blocks i 0
    → ((b : ℕ) → set.contains s b ≡ (before b && is_none_of (take i blocks) b))
    → (b : ℕ) → set.contains (set.remove s x) b ≡ (before b && is_none_of (take (i + 1) blocks) b)
removed-more s before blocks i x inside read so_far b =
    let counts : count_by (nat_eq b) (take (i + 1) blocks) ≡ count_by (nat_eq b) (take i blocks) + one_if (nat_eq b x) =
    ap (count_by (nat_eq b)) (take_more blocks i 0 inside) ∙ count_by-push b (take i blocks) (get_or blocks i 0)
    ∙ ap (λ y. count_by (nat_eq b) (take i blocks) + one_if (nat_eq b y)) (sym read) in
    contains-remove_nat s x b ∙ elim (cases_eq b x) [
      | inl same ↦
          let some : is_none_of (take (i + 1) blocks) b ≡ false =
          ne_eqb (count_by (nat_eq b) (take (i + 1) blocks)) 0 (λ none. omega (arith, counts, one_if-same b x same)) in
          rw (eq-eqb b x same) (sym (and_right (before b) (is_none_of (take (i + 1) blocks) b) some))
      | inr other ↦
          let as_before : count_by (nat_eq b) (take i blocks) ≡ count_by (nat_eq b) (take (i + 1) blocks) =
          omega (arith, counts, one_if-other b x other) in
          rw (ne_eqb b x other) (so_far b ∙ ap (λ n. before b && nat_eq n 0) as_before)
    ]

-- one more file
pub times_listed-more : (files : List (Option Inode)) (i b : ℕ) → i < length files
    → times_listed (block_lists (take (i + 1) files)) b
    ≡ times_listed (block_lists (take i files)) b + count_by (nat_eq b) (blocks_of_slot (get_or files i None))
times_listed-more files i b inside =
    ap (λ lists. times_listed lists b) (map_more blocks_of_slot files i None inside)
    ∙ sum_by_push (λ blocks. count_by (nat_eq b) blocks) (map blocks_of_slot (take i files)) (blocks_of_slot (get_or files i None))

pub and_true : (t : Bool) → (t && true) ≡ t
and_true true = refl
and_true false = refl

none_of_both : (t : Bool) (m n : ℕ) → (t && nat_eq m 0 && nat_eq n 0) ≡ (t && nat_eq (m + n) 0)
none_of_both t m n =
    elim (cases_eq m 0) [
      | inl none ↦
          let sum : m + n ≡ n = omega (arith, none) in
          rw (sum, eq-eqb m 0 none, and_true t) refl
      | inr some ↦
          rw (ne_eqb m 0 some, ne_eqb (m + n) 0 (λ none. some (omega arith)), and_right t false refl) refl
    ]

-- what is free once the blocks of the first files were removed
pub record FreeAfter (total : ℕ) (files : List (Option Inode)) (count : ℕ) (free : FreeBlocks) : Type 0 where
  pub same_total : free.total ≡ total
  pub blocks : (b : ℕ) → set.contains free.free b ≡ is_free_block total (length files) (block_lists (take count files)) b

-- the blocks of one more file
pub FreeAfter-file : (total : ℕ) (files : List (Option Inode)) (i : ℕ) (free left : FreeBlocks) (blocks : List ℕ) → i < length files
    → blocks_of_slot (get_or files i None) ≡ blocks → FreeAfter total files i free → left.total ≡ free.total
    → ((b : ℕ) → set.contains left.free b ≡ (set.contains free.free b && is_none_of blocks b))
    → FreeAfter total files (i + 1) left
FreeAfter-file total files i free left blocks inside has before same removed = record {
  same_total = same ∙ before.same_total;
  blocks = λ b.
      let t : Bool = is_data_block total (length files) b in
      let m : ℕ = times_listed (block_lists (take i files)) b in
      removed b ∙ ap (λ u. u && is_none_of blocks b) (before.blocks b)
      ∙ none_of_both t m (count_by (nat_eq b) blocks)
      ∙ ap (λ n. t && nat_eq n 0) (sym (times_listed-more files i b inside ∙ ap (λ bs. m + count_by (nat_eq b) bs) has));
}

-- no file there
pub FreeAfter-free : (total : ℕ) (files : List (Option Inode)) (i : ℕ) (free : FreeBlocks) → i < length files
    → get_or files i None ≡ None → FreeAfter total files i free → FreeAfter total files (i + 1) free
FreeAfter-free total files i free inside none before =
    FreeAfter-file total files i free free [] inside (ap blocks_of_slot none) before refl (λ b. sym (and_true (set.contains free.free b)))

-- the blocks of a valid file have a place among the free ones
pub below_total : (total capacity : ℕ) (free : FreeBlocks) (blocks : List ℕ) → free.total ≡ total
    → All (λ b. IsTrue (is_data_block total capacity b)) blocks → All (λ b. b < free.total) blocks
below_total total capacity free blocks same are_data = λ k d inside.
    let b : ℕ = get_or blocks k d in
    rw same (ltb-true b total (and_parts (nat_le (data_start capacity) b) (nat_lt b total) (are_data k d inside)).1)

-- ---- data blocks

-- the data blocks below a number are free
pub record DataBelow (total capacity : ℕ) (free : FreeBlocks) (number : ℕ) : Type 0 where
  pub same_total : free.total ≡ total
  pub blocks : (b : ℕ) → set.contains free.free b ≡ (nat_lt b number && is_data_block total capacity b)

pub DataBelow-none : (total capacity : ℕ) (free : FreeBlocks) → free ≡ record { total = total; free = set.empty }
    → DataBelow total capacity free (data_start capacity)
DataBelow-none total capacity free is = rw is (record {
  same_total = refl;
  blocks = λ b. set.contains-empty nat_cmp b ∙ elim (cases_lt b (data_start capacity)) [
    | inl below ↦
        let no_data : is_data_block total capacity b ≡ false =
        and_left (nat_le (data_start capacity) b) (nat_lt b total) (lt-leb (data_start capacity) b below) in
        sym (and_right (nat_lt b (data_start capacity)) (is_data_block total capacity b) no_data)
    | inr past ↦ sym (and_left (nat_lt b (data_start capacity)) (is_data_block total capacity b) (le-ltb b (data_start capacity) past))
  ];
})

pub DataBelow-not_free : (total capacity : ℕ) (free : FreeBlocks) (number : ℕ) → DataBelow total capacity free number
    → set.contains free.free number ≡ false
DataBelow-not_free total capacity free number below =
    below.blocks number
    ∙ and_left (nat_lt number number) (is_data_block total capacity number) (le-ltb number number (omega arith))

lt-more : (b number : ℕ) → (b ≡ number → ⊥) → nat_lt b number ≡ nat_lt b (number + 1)
lt-more b number other =
    elim (cases_lt b number) [
      | inl below ↦ lt-ltb b number below ∙ sym (lt-ltb b (number + 1) (omega arith))
      | inr past ↦ le-ltb b number past ∙ sym (le-ltb b (number + 1) (omega arith))
    ]

pub DataBelow-more : (total capacity : ℕ) (free left : FreeBlocks) (number : ℕ) → DataBelow total capacity free number
    → data_start capacity ≤ number → number < total → left ≡ record { total = free.total; free = set.insert free.free number }
    → DataBelow total capacity left (number + 1)
DataBelow-more total capacity free left number below from to is = rw is (record {
  same_total = below.same_total;
  blocks = λ b. contains-insert_nat free.free number b ∙ elim (cases_eq b number) [
    | inl same ↦
        let here : is_data_block total capacity b ≡ true = subst (λ k. is_data_block total capacity k ≡ true) (sym same)
        (and_from (nat_le (data_start capacity) number) (nat_lt number total)
        (le-leb (data_start capacity) number from) (lt-ltb number total to)) in
        rw (eq-eqb b number same)
        (sym (and_from (nat_lt b (number + 1)) (is_data_block total capacity b) (lt-ltb b (number + 1) (omega arith)) here))
    | inr other ↦ rw (ne_eqb b number other) (below.blocks b ∙ ap (λ t. t && is_data_block total capacity b) (lt-more b number other))
  ];
})

pub DataBelow-all : (total capacity : ℕ) (free : FreeBlocks) (number : ℕ) → DataBelow total capacity free number → total ≤ number
    → (b : ℕ) → set.contains free.free b ≡ is_data_block total capacity b
DataBelow-all total capacity free number below end b =
    below.blocks b ∙ elim (cases_lt b number) [
      | inl inside ↦ ap (λ t. t && is_data_block total capacity b) (lt-ltb b number inside)
      | inr past ↦
          let no_data : is_data_block total capacity b ≡ false =
          and_right (nat_le (data_start capacity) b) (nat_lt b total) (le-ltb b total (omega arith)) in
          and_left (nat_lt b number) (is_data_block total capacity b) (le-ltb b number past) ∙ sym no_data
    ]

-- ---- names

-- the first file that passes among one more
pub position-push : (p : Option Inode → Bool) (files : List (Option Inode)) (o : Option Inode)
    → position p (files ++ o ∷ []) ≡ option_or (position p files) (cond (p o) (Some (length files)) None)
position-push p files o =
    elim (cases_lt (position_or_len p files) (length files)) [
      | inl found ↦
          let same : position_or_len p (files ++ o ∷ []) ≡ position_or_len p files =
          position_or_len_push p files o
          ∙ cond-false _ _ _ (ne_eqb (position_or_len p files) (length files) (λ end. omega arith)) in
          rw (
            same,
            length_push files o,
            lt-ltb (position_or_len p files) (length files) found,
            lt-ltb
                (position_or_len p files) (length files + 1) (omega arith),
          ) refl
      | inr past ↦
          let end : position_or_len p files ≡ length files = omega (arith, prefix_len-le-length (λ x. not (p x)) files) in
          let next : position_or_len p (files ++ o ∷ []) ≡ length files + cond (p o) 0 1 =
          position_or_len_push p files o
          ∙ cond-true _ _ _ (eq-eqb (position_or_len p files) (length files) end) in
          elim (cases_Bool (p o)) [
            | inl passes ↦
                let here : position_or_len p (files ++ o ∷ []) ≡ length files =
                next ∙ ap (λ b. length files + cond b 0 1) passes ∙ add-zero (length files) in
                rw (
                  here,
                  length_push files o,
                  passes,
                  le-ltb (position_or_len p files)
                      (length files) past,
                  lt-ltb (length files) (length files + 1) (omega arith),
                ) refl
            | inr fails ↦
                let nowhere : position_or_len p (files ++ o ∷ []) ≡ length files + 1 = next ∙ ap (λ b. length files + cond b 0 1) fails in
                rw (
                  nowhere,
                  length_push files o,
                  fails,
                  le-ltb (position_or_len p files)
                      (length files) past,
                  le-ltb (length files + 1) (length files + 1) (omega arith),
                ) refl
          ]
    ]

option_or-None : (o : Option ℕ) → option_or o None ≡ o
option_or-None None = refl
option_or-None (Some x) = refl

-- the names so far, where the next id is free
pub named-free : (files : List (Option Inode)) (i : ℕ) → i < length files → get_or files i None ≡ None
    → (name : List ℕ) → id_of name (take i files) ≡ id_of name (take (i + 1) files)
named-free files i inside free name =
    sym (ap (id_of name) (take_more files i None inside ∙ ap (λ o. take i files ++ o ∷ []) free)
    ∙ position-push (has_name name) (take i files) None ∙ option_or-None (id_of name (take i files)))

-- the names so far, where the next id has a file
pub named-file : (files : List (Option Inode)) (i : ℕ) (file : Inode) (old new : List ℕ → Option ℕ)
    → NamesDiffer files → i < length files → get_or files i None ≡ Some file
    → ((name : List ℕ) → old name ≡ id_of name (take i files))
    → ((name : List ℕ) → new name ≡ cond (bytes_eq file.name name) (Some i) (old name)) → (name : List ℕ)
    → new name ≡ id_of name (take (i + 1) files)
named-file files i file old new differ inside there so_far found name =
    found name ∙ sym (ap (id_of name) (take_more files i None inside ∙ ap (λ o. take i files ++ o ∷ []) there)
    ∙ position-push (has_name name) (take i files) (Some file) ∙ sym chosen)
  where
    unused : id_of file.name (take i files) ≡ None
    unused =
        position-nowhere (has_name file.name) (take i files)
        (λ k below.
        let lower : k < i = omega (arith, below, length-take i files) in
        ap (has_name file.name) (get_or-take i files k None lower)
        ∙ elim (cases_Bool (has_name file.name (inode_at files k))) [
          | inl has ↦
              let other : Named file.name (inode_at files k) = has_name-Named file.name (inode_at files k) has in
              absurd (omega (arith, differ k i other.file file other.is there (sym other.named)))
          | inr fails ↦ fails
        ])

    all : length (take i files) ≡ i
    all = length-take i files ∙ omega arith

    chosen : cond (bytes_eq file.name name) (Some i) (old name)
        ≡ option_or (id_of name (take i files))
        (cond (bytes_eq name file.name) (Some (length (take i files))) None)
    chosen =
        elim (cases_Bool (bytes_eq file.name name)) [
          | inl same ↦
              let is : file.name ≡ name = (bytes_decides file.name name).0 same in
              let none : id_of name (take i files) ≡ None = subst (λ n. id_of n (take i files) ≡ None) is unused in
              let back : bytes_eq name file.name ≡ true = nat_list_eq_equiv.symm name file.name ∙ same in
              rw (same, none, back, all) refl
          | inr differs ↦
              let back : bytes_eq name file.name ≡ false = nat_list_eq_equiv.symm name file.name ∙ differs in
              rw (differs, back) (so_far name ∙ sym (option_or-None (id_of name (take i files))))
        ]
