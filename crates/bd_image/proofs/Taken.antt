-- The blocks that the volume of an image has as taken are those that the image has as taken.
use Rattle.std.proofs.Common.{◌≡◌, ◌<◌, ◌+◌, ◌↔◌, inl, inr, ℕ, Bool, true, false, cond, eqb, ltb, List, Option}
use Rattle.std.proofs.Common.{Some, None, length, map, get_or, refl, ap, sym, ◌∙◌, arith}
use Rattle.std.proofs.lemmas.Bool.{eq-eqb, eqb-true, false≢true, lt-ltb, ltb-true, or_cases, or_left, or_right}
use Rattle.std.proofs.lemmas.List.{get_or_default}
use Rattle.std.proofs.lemmas.List.Folds.{Any-from_list_any, list_any-from_Any, list_any_at}
use Rattle.std.proofs.lemmas.List.FromFn.{get_or-map-range_with_len, length-map-range_with_len}
use Rattle.std.specs.List.{Contains, list_any, range_with_len}
use Rattle.std.specs.Bool.{IsTrue}
use Rattle.bd_base.specs.declared.volume.Inode.{Inode}
use Rattle.bd_base.specs.Files.{data_start}
use Rattle.bd_image.specs.Layout.{blocks_in_image, inode_count, name_at, owner_at, perms_at, size_in_image, used_mark}
use Rattle.bd_image.specs.Rules.{IsInUse}
use Rattle.bd_image.specs.Volumes.{inode_in_image, is_in_use, owns_block}

-- the file of record j, where it is used
abbrev pub file_in_image : List ℕ → ℕ → Inode
file_in_image b j = record { name = name_at b j; owner = owner_at b j; perms = perms_at b j; size = size_in_image b j; blocks = blocks_in_image b j }

-- the files of the volume that an image says
abbrev pub inodes_of : List ℕ → List (Option Inode)
inodes_of b = map (inode_in_image b) (range_with_len 0 (inode_count b))

pub Contains-from_any : (xs : List ℕ) (x : ℕ) → list_any (eqb x) xs ≡ true → Contains xs x
Contains-from_any xs x h =
    let (k, y, low, at, same) = Any-from_list_any (eqb x) xs h in
    (k, low, get_or_default xs k x y low ∙ at ∙ sym (eqb-true x y same))

pub any-from_Contains : (xs : List ℕ) (x : ℕ) → Contains xs x → list_any (eqb x) xs ≡ true
any-from_Contains xs x c =
    list_any-from_Any (eqb x) xs (c.0, x, c.1, c.2, eq-eqb x x refl)

-- a record that may be free owns a block where it is used and its file has the block
owns-from : (used : Bool) (file : Inode) (x : ℕ) → owns_block x (cond used (Some file) None) ≡ true → (used ≡ true) × Contains file.blocks x
owns-from true file x h = (refl, Contains-from_any file.blocks x h)
owns-from false file x h = absurd (false≢true h)

owns-of : (used : Bool) (file : Inode) (x : ℕ) → used ≡ true → Contains file.blocks x → owns_block x (cond used (Some file) None) ≡ true
owns-of true file x h c = any-from_Contains file.blocks x c
owns-of false file x h c = absurd (false≢true h)

pub inodes_of-get_or : (b : List ℕ) (j : ℕ) (d : Option Inode) → j < inode_count b → get_or (inodes_of b) j d ≡ inode_in_image b j
inodes_of-get_or b j d h = let at : 0 + j ≡ j = omega arith in get_or-map-range_with_len (inode_in_image b) 0 (inode_count b) j j d h at

pub length-inodes_of : (b : List ℕ) → length (inodes_of b) ≡ inode_count b
length-inodes_of b = length-map-range_with_len (inode_in_image b) 0 (inode_count b)

taken-from : (b : List ℕ) (x : ℕ) → is_in_use (inodes_of b) x ≡ true → IsInUse b x
taken-from b x h =
    elim (or_cases (ltb x (data_start (length (inodes_of b)))) (list_any (owns_block x) (inodes_of b)) h) [
      | inl metadata ↦ inl (rw length-inodes_of at (ltb-true x (data_start (length (inodes_of b))) metadata))
      | inr owned ↦
          let (j, o, low, at, own) = Any-from_list_any (owns_block x) (inodes_of b) owned in
          let within : j < inode_count b = omega (arith, low, length-inodes_of b) in
          let same : inode_in_image b j ≡ o = sym (inodes_of-get_or b j o within) ∙ at in
          let (used, has) = owns-from (eqb (used_mark b j) 1) (file_in_image b j) x (ap (owns_block x) same ∙ own) in
          inr (j, (within, eqb-true (used_mark b j) 1 used), has)
    ]

taken-of : (b : List ℕ) (x : ℕ) → IsInUse b x → is_in_use (inodes_of b) x ≡ true
taken-of b x (inl metadata) =
    or_left (ltb x (data_start (length (inodes_of b)))) (list_any (owns_block x) (inodes_of b))
    (lt-ltb x (data_start (length (inodes_of b))) (rw length-inodes_of metadata))
taken-of b x (inr (j, (within, used), has)) =
    let own : owns_block x (inode_in_image b j) ≡ true = owns-of (eqb (used_mark b j) 1) (file_in_image b j) x (eq-eqb (used_mark b j) 1 used) has in
    let d : Option Inode = None in
    or_right (ltb x (data_start (length (inodes_of b)))) (list_any (owns_block x) (inodes_of b))
    (list_any_at (owns_block x) (inodes_of b) j d (rw length-inodes_of within) (ap (owns_block x) (inodes_of-get_or b j d within) ∙ own))

-- the volume of an image has a block as taken exactly where the image does
pub is_in_use-exact : (b : List ℕ) (x : ℕ) → IsTrue (is_in_use (inodes_of b) x) ↔ IsInUse b x
is_in_use-exact b x = (taken-from b x, taken-of b x)
