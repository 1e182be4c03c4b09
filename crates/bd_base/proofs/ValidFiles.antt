-- Files stay valid as one of them changes: as its size, as it gets or loses its last block, as it is made or taken away.
use Rattle.std.proofs.Common.{◌≡◌, ℕ, ◌+◌, ◌-◌, ◌*◌, ◌<◌, ◌≤◌, true, nat_eq, nat_le, nat_lt, List, [], ◌∷◌, ◌++◌, length, count_by, slice_set, Option, None, Some, IsTrue, is_some, not, arith, refl, sym, ap, ◌∙◌, inl, inr, subst}
use Rattle.std.specs.Cmp.Lexicographic.{bytes_decides}
use Rattle.std.proofs.lemmas.Bool.{and_parts, both_ways, cases_eq, eqb-true, false≢true, leb-true, ltb-true}
use Rattle.std.proofs.lemmas.List.{length-append, length-set, length-take}
use Rattle.std.proofs.lemmas.List.Elements.{All-nil, All-push, All-take}
use Rattle.std.proofs.lemmas.List.Quantifiers.{position-Some}
use Rattle.std.proofs.lemmas.Option.{none-some, same_Some}
use Rattle.bd_base.specs.declared.limits.TheConstants.{BLOCK_SIZE, EXTENTS, FILE_SIZE}
use Rattle.bd_base.specs.declared.volume.Inode.{Inode}
use Rattle.bd_base.specs.Allocation.{is_data_block, last_block, times_listed}
use Rattle.bd_base.specs.Extents.{extents_of, is_extent_start}
use Rattle.bd_base.specs.Files.{blocks_for, data_start}
use Rattle.bd_base.specs.Inodes.{AreValidFiles, IsValidFile, block_lists, blocks_of_slot, free_id, grown_file, has_name, id_of, inode_at, is_free, without_last}
use Rattle.bd_base.proofs.Counts.{count_by-push, one_if, one_if-other, one_if-same}
use Rattle.bd_base.proofs.ExtentCounts.{extent_count-push}
use Rattle.bd_base.proofs.FileLists.{inode_at-set_other, inode_at-set_same, inode_at-within, position-fails, times_listed-set}
use Rattle.bd_base.proofs.Lists.{last_block-split}

-- ---- one file of the same name

-- a file that stood there before, of the same name
record Before (files : List (Option Inode)) (id : ℕ) (file : Inode) : Type 0 where
  was : Inode
  there : inode_at files id ≡ Some was
  same_name : was.name ≡ file.name

module _ (total : ℕ) (files : List (Option Inode)) (id : ℕ) (file changed : Inode) (there : inode_at files id ≡ Some file)
    (same_name : changed.name ≡ file.name) where
  inside : id < length files
  inside = inode_at-within files id (ap is_some there)

  -- what stands at the id now
  is_changed : (k : ℕ) (f : Inode) → k ≡ id → inode_at (slice_set files id (Some changed)) k ≡ Some f → changed ≡ f
  is_changed k f same at =
      same_Some changed f
      (sym (inode_at-set_same files id (Some changed) inside) ∙ subst (λ j. inode_at (slice_set files id (Some changed)) j ≡ Some f) same at)

  before : (k : ℕ) (f : Inode) → inode_at (slice_set files id (Some changed)) k ≡ Some f → Before files k f
  before k f at =
      elim (cases_eq k id) [
        | inl same ↦
            let name : changed.name ≡ f.name = ap (λ (g : Inode). g.name) (is_changed k f same at) in
            record { was = file; there = ap (inode_at files) same ∙ there; same_name = sym same_name ∙ name }
        | inr other ↦ record { was = f; there = sym (inode_at-set_other files id k (Some changed) other) ∙ at; same_name = refl }
      ]

  pub AreValidFiles-set : AreValidFiles total files → IsValidFile total (length files) changed →
      ((b : ℕ) → times_listed (block_lists (slice_set files id (Some changed))) b ≤ 1) → AreValidFiles total (slice_set files id (Some changed))
  AreValidFiles-set valid changed_valid once = record {
    few_blocks = valid.few_blocks;
    few_files = rw length-set valid.few_files;
    each = λ k f at. rw length-set (elim (cases_eq k id) [
      | inl same ↦ subst (IsValidFile total (length files)) (is_changed k f same at) changed_valid
      | inr other ↦ valid.each k f (sym (inode_at-set_other files id k (Some changed) other) ∙ at)
    ]);
    owned_once = once;
    names_differ = λ i j f g at_i at_j same.
        let first : Before files i f = before i f at_i in
        let second : Before files j g = before j g at_j in
        valid.names_differ i j first.was second.was first.there second.there (first.same_name ∙ same ∙ sym second.same_name);
  }

-- how often a block was listed by a file that is there
listed : (files : List (Option Inode)) (id : ℕ) (file : Inode) (b : ℕ) → inode_at files id ≡ Some file →
    count_by (nat_eq b) (blocks_of_slot (inode_at files id)) ≡ count_by (nat_eq b) file.blocks
listed files id file b there = ap (λ o. count_by (nat_eq b) (blocks_of_slot o)) there

-- ---- a new size

pub times-resized : (files : List (Option Inode)) (id : ℕ) (file : Inode) (size b : ℕ) → inode_at files id ≡ Some file →
    times_listed (block_lists (slice_set files id (Some (record file { size = size })))) b ≡ times_listed (block_lists files) b
times-resized files id file size b there =
    let counts = times_listed-set files id (Some (record file { size = size })) b (inode_at-within files id (ap is_some there)) in
    omega (arith, counts, listed files id file b there)

pub AreValidFiles-resized : (total : ℕ) (files : List (Option Inode)) (id : ℕ) (file : Inode) (size : ℕ) → AreValidFiles total files →
    inode_at files id ≡ Some file → length file.blocks ≡ blocks_for size → AreValidFiles total (slice_set files id (Some (record file { size = size })))
AreValidFiles-resized total files id file size valid there enough =
    let was : IsValidFile total (length files) file = valid.each id file there in
    AreValidFiles-set total files id file (record file { size = size }) there refl valid
    (record {
      in_data_area = was.in_data_area;
      enough_blocks = enough;
      size_in_range = omega (arith, was.enough_blocks, was.size_in_range);
      few_extents = was.few_extents;
    })
    (λ b. rw (times-resized files id file size b there) (valid.owned_once b))

-- ---- one more block

pub times-grown : (files : List (Option Inode)) (id : ℕ) (file : Inode) (block size b : ℕ) → inode_at files id ≡ Some file →
    times_listed (block_lists (slice_set files id (Some (grown_file file (Some block) size)))) b
    ≡ times_listed (block_lists files) b + one_if (nat_eq b block)
times-grown files id file block size b there =
    let counts = times_listed-set files id (Some (grown_file file (Some block) size)) b (inode_at-within files id (ap is_some there)) in
    omega (arith, counts, listed files id file b there, count_by-push b file.blocks block)

-- a data block stands between the ends of the data area
pub data_block-within : (total capacity block : ℕ) → IsTrue (is_data_block total capacity block)
    → (data_start capacity ≤ block) × (block < total)
data_block-within total capacity block is =
    let parts = and_parts (nat_le (data_start capacity) block) (nat_lt block total) is in
    (leb-true (data_start capacity) block parts.0, ltb-true block total parts.1)

-- a free block is a data block that no file has
pub record IsFree (total : ℕ) (files : List (Option Inode)) (block : ℕ) : Type 0 where
  pub is_data : is_data_block total (length files) block ≡ true
  pub unowned : times_listed (block_lists files) block ≡ 0

pub IsFree-from : (total : ℕ) (files : List (Option Inode)) (block : ℕ) → is_free total files block ≡ true → IsFree total files block
IsFree-from total files block free =
    let parts = and_parts (is_data_block total (length files) block) (nat_eq (times_listed (block_lists files) block) 0) free in
    record { is_data = parts.0; unowned = eqb-true (times_listed (block_lists files) block) 0 parts.1 }

pub AreValidFiles-grown : (total : ℕ) (files : List (Option Inode)) (id : ℕ) (file : Inode) (block size : ℕ) → AreValidFiles total files →
    inode_at files id ≡ Some file → IsFree total files block → length file.blocks + 1 ≡ blocks_for size → size ≤ FILE_SIZE →
    length (extents_of (file.blocks ++ block ∷ [])) ≤ EXTENTS → AreValidFiles total (slice_set files id (Some (grown_file file (Some block) size)))
AreValidFiles-grown total files id file block size valid there free enough in_range few =
    let was : IsValidFile total (length files) file = valid.each id file there in
    AreValidFiles-set total files id file (grown_file file (Some block) size) there refl valid
    (record {
      in_data_area = All-push (λ b. IsTrue (is_data_block total (length files) b)) file.blocks block was.in_data_area free.is_data;
      enough_blocks = length-append file.blocks (block ∷ []) ∙ enough;
      size_in_range = in_range;
      few_extents = few;
    })
    (λ b. elim (cases_eq b block) [
      | inl same ↦
          let none : times_listed (block_lists files) b ≡ 0 = ap (times_listed (block_lists files)) same ∙ free.unowned in
          omega (arith, times-grown files id file block size b there, none, one_if-same b block same)
      | inr other ↦ omega (arith, times-grown files id file block size b there, valid.owned_once b, one_if-other b block other)
    ])

-- ---- one block less

pub extents_without_last : (file : Inode) (block : ℕ) → last_block file.blocks ≡ Some block → length (extents_of file.blocks)
    ≡ length (extents_of (without_last file).blocks) + one_if (is_extent_start (last_block (without_last file).blocks) block)
extents_without_last file block last =
    ap (λ bs. length (extents_of bs)) (last_block-split file.blocks block last) ∙ extent_count-push (without_last file).blocks block

module _ (files : List (Option Inode)) (id : ℕ) (file : Inode) (block : ℕ) (there : inode_at files id ≡ Some file)
    (last : last_block file.blocks ≡ Some block) where
  one_block_more : length file.blocks ≡ length file.blocks - 1 + 1
  one_block_more =
      let rest = (without_last file).blocks in
      let split : length file.blocks ≡ length (rest ++ block ∷ []) = ap length (last_block-split file.blocks block last) in
      omega (arith, split, length-append rest (block ∷ []))

  pub times-dropped : (b : ℕ) →
      times_listed (block_lists (slice_set files id (Some (without_last file)))) b + one_if (nat_eq b block) ≡ times_listed (block_lists files) b
  times-dropped b =
      let counts = times_listed-set files id (Some (without_last file)) b (inode_at-within files id (ap is_some there)) in
      let pushed : count_by (nat_eq b) file.blocks ≡ count_by (nat_eq b) (without_last file).blocks + one_if (nat_eq b block) =
      ap (count_by (nat_eq b)) (last_block-split file.blocks block last) ∙ count_by-push b (without_last file).blocks block in
      omega (arith, counts, listed files id file b there, pushed)

  size_of_blocks : (n : ℕ) → n ≡ blocks_for (BLOCK_SIZE * n)
  size_of_blocks n = omega arith

  length_left : length (without_last file).blocks ≡ length file.blocks - 1
  length_left = length-take (length file.blocks - 1) file.blocks ∙ omega (arith, one_block_more)

  pub AreValidFiles-dropped : (total : ℕ) → AreValidFiles total files → AreValidFiles total (slice_set files id (Some (without_last file)))
  AreValidFiles-dropped total valid =
      let was : IsValidFile total (length files) file = valid.each id file there in
      AreValidFiles-set total files id file (without_last file) there refl valid
      (record {
        in_data_area = All-take (λ b. IsTrue (is_data_block total (length files) b)) (length file.blocks - 1) file.blocks was.in_data_area;
        enough_blocks = length_left ∙ size_of_blocks (length file.blocks - 1);
        size_in_range = omega (arith, was.enough_blocks, was.size_in_range, one_block_more);
        few_extents = omega (arith, was.few_extents, extents_without_last file block last);
      })
      (λ b. omega (arith, times-dropped b, valid.owned_once b))

-- ---- a file that has no block before and after

module _ (total : ℕ) (files : List (Option Inode)) (id : ℕ) (o : Option Inode) (inside : id < length files)
    (no_blocks : blocks_of_slot o ≡ []) (had_none : blocks_of_slot (inode_at files id) ≡ []) where
  pub times-no_blocks : (b : ℕ) → times_listed (block_lists (slice_set files id o)) b ≡ times_listed (block_lists files) b
  times-no_blocks b =
      let counts = times_listed-set files id o b inside in
      let before : count_by (nat_eq b) (blocks_of_slot (inode_at files id)) ≡ 0 = ap (count_by (nat_eq b)) had_none in
      let after : count_by (nat_eq b) (blocks_of_slot o) ≡ 0 = ap (count_by (nat_eq b)) no_blocks in
      omega (arith, counts, before, after)

  once : AreValidFiles total files → (b : ℕ) → times_listed (block_lists (slice_set files id o)) b ≤ 1
  once valid b = rw (times-no_blocks b) (valid.owned_once b)

pub free_id-free : (files : List (Option Inode)) (id : ℕ) → free_id files ≡ Some id → (id < length files) × (inode_at files id ≡ None)
free_id-free files id lowest =
    let at = position-Some (λ file. not (is_some file)) files id None lowest in
    (at.0, none (inode_at files id) at.1)
  where
    none : (o : Option Inode) → not (is_some o) ≡ true → o ≡ None
    none None free = refl
    none (Some f) free = absurd (false≢true free)

-- a file that is made
module _ (total : ℕ) (files : List (Option Inode)) (id : ℕ) (made : Inode) (lowest : free_id files ≡ Some id)
    (empty : made.blocks ≡ []) (no_size : made.size ≡ 0) (unused : id_of made.name files ≡ None) where
  made_inside : id < length files
  made_inside = (free_id-free files id lowest).0

  none_before : inode_at files id ≡ None
  none_before = (free_id-free files id lowest).1

  is_made : (k : ℕ) (f : Inode) → k ≡ id → inode_at (slice_set files id (Some made)) k ≡ Some f → made ≡ f
  is_made k f same at =
      same_Some made f
      (sym (inode_at-set_same files id (Some made) made_inside) ∙ subst (λ j. inode_at (slice_set files id (Some made)) j ≡ Some f) same at)

  made_valid : IsValidFile total (length files) made
  made_valid = record {
    in_data_area = rw empty (All-nil (λ b. IsTrue (is_data_block total (length files) b)));
    enough_blocks = rw (empty, no_size) refl;
    size_in_range = omega (arith, no_size);
    few_extents = rw empty (omega arith);
  }

  not_named : (j : ℕ) (g : Inode) → inode_at files j ≡ Some g → made.name ≡ g.name → ⊥
  not_named j g there same =
      both_ways (has_name made.name (inode_at files j))
      (position-fails (has_name made.name) files unused j (inode_at-within files j (ap is_some there)))
      (ap (has_name made.name) there ∙ (bytes_decides made.name g.name).1 same)

  was_there : (j : ℕ) (g : Inode) → (j ≡ id → ⊥) → inode_at (slice_set files id (Some made)) j ≡ Some g → inode_at files j ≡ Some g
  was_there j g other at = sym (inode_at-set_other files id j (Some made) other) ∙ at

  pub AreValidFiles-made : AreValidFiles total files → AreValidFiles total (slice_set files id (Some made))
  AreValidFiles-made valid = record {
    few_blocks = valid.few_blocks;
    few_files = rw length-set valid.few_files;
    each = λ k f at. rw length-set (elim (cases_eq k id) [
      | inl same ↦ subst (IsValidFile total (length files)) (is_made k f same at) made_valid
      | inr other ↦ valid.each k f (was_there k f other at)
    ]);
    owned_once = once total files id (Some made) made_inside empty (ap blocks_of_slot none_before) valid;
    names_differ = λ i j f g at_i at_j same. elim (cases_eq i id) [
      | inl first ↦
          elim (cases_eq j id) [
            | inl second ↦ first ∙ sym second
            | inr other ↦ absurd (not_named j g (was_there j g other at_j) (ap (λ (h : Inode). h.name) (is_made i f first at_i) ∙ same))
          ]
      | inr other ↦
          elim (cases_eq j id) [
            | inl second ↦ absurd (not_named i f (was_there i f other at_i) (ap (λ (h : Inode). h.name) (is_made j g second at_j) ∙ sym same))
            | inr further ↦ valid.names_differ i j f g (was_there i f other at_i) (was_there j g further at_j) same
          ]
    ];
  }

-- a file that is taken away
pub AreValidFiles-removed : (total : ℕ) (files : List (Option Inode)) (id : ℕ) (file : Inode) → AreValidFiles total files →
    inode_at files id ≡ Some file → file.blocks ≡ [] → AreValidFiles total (slice_set files id None)
AreValidFiles-removed total files id file valid there empty = record {
  few_blocks = valid.few_blocks;
  few_files = rw length-set valid.few_files;
  each = λ k f at. rw length-set (valid.each k f (before_that k f at));
  owned_once = once total files id None within refl (ap blocks_of_slot there ∙ empty) valid;
  names_differ = λ i j f g at_i at_j same. valid.names_differ i j f g (before_that i f at_i) (before_that j g at_j) same;
}
  where
    within : id < length files
    within = inode_at-within files id (ap is_some there)

    before_that : (k : ℕ) (f : Inode) → inode_at (slice_set files id None) k ≡ Some f → inode_at files k ≡ Some f
    before_that k f at =
        elim (cases_eq k id) [
          | inl same ↦
              absurd (none-some f (sym (inode_at-set_same files id None within) ∙ subst (λ j. inode_at (slice_set files id None) j ≡ Some f) same at))
          | inr other ↦ sym (inode_at-set_other files id k None other) ∙ at
        ]
