-- No block of an accepted image is in two places of its files.
use Rattle.std.proofs.Common.{◌≡◌, ◌≤◌, ◌<◌, ◌+◌, ◌⊎◌, inl, inr, ℕ, zero, suc, cond, eqb, ◌-◌, List, [], ◌∷◌}
use Rattle.std.proofs.Common.{◌++◌, Option, None, Some, length, get_or, replicate, map, refl, ap, sym, ◌∙◌}
use Rattle.std.proofs.Common.{subst, arith}
use Rattle.std.proofs.lemmas.Bool.{cases_eq, cases_lt, cases_order, cond-false, cond-true, eq-eqb, eqb-true, ne_eqb}
use Rattle.std.proofs.lemmas.List.Sums.{sum_by-append, sum_by-cons}
use Rattle.std.specs.List.{count_by, range_with_len, sum_by}
use Rattle.bd_base.specs.declared.volume.Extent.{Extent}
use Rattle.std.proofs.lemmas.List.{get_or_past}
use Rattle.std.proofs.lemmas.List.Folds.{fold-map}
use Rattle.std.proofs.lemmas.Option.{cond_some, none-some}
use Rattle.bd_base.specs.declared.volume.Inode.{Inode}
use Rattle.bd_base.specs.Allocation.{times_listed}
use Rattle.bd_base.specs.Extents.{blocks_of}
use Rattle.bd_base.specs.Inodes.{block_lists, blocks_of_slot}
use Rattle.bd_image.specs.Layout.{IsUsed, extent_at, extent_count, inode_count, name_at, name_field, used_mark}
use Rattle.bd_image.specs.Rules.{IsExtent, Obeys, ShareBlock, ExtentShares, NameForm, NameFresh}
use Rattle.bd_image.specs.Volumes.{inode_in_image}
use Rattle.bd_image.proofs.Names.{name-field}
use Rattle.bd_image.proofs.Taken.{file_in_image, inodes_of, inodes_of-get_or, length-inodes_of}

-- how often block x is in blocks
abbrev pub times : ℕ → List ℕ → ℕ
times x blocks = count_by (eqb x) blocks

-- a sum is zero, or one of its terms is not
pub sum-cases : (g : ℕ → ℕ) (n a : ℕ) → (sum_by g (range_with_len a n) ≡ 0) ⊎ ((e : ℕ) × (a ≤ e) × (e < a + n) × (0 < g e))
sum-cases g zero a = inl refl
sum-cases g (suc n) a =
    elim (cases_eq (g a) 0) [
      | inl none ↦
          elim (sum-cases g n (a + 1)) [
            | inl rest ↦ inl (sum_by-cons g a (range_with_len (a + 1) n) ∙ (let e : g a + sum_by g (range_with_len (a + 1) n) ≡ 0 = omega arith in e))
            | inr found ↦ inr (found.0, omega (arith, found.1), omega (arith, found.2), found.3)
          ]
      | inr some ↦ inr (a, omega arith, omega arith, omega arith)
    ]

-- terms of at most one, of which no two are one, sum up to at most one
pub sum-at_most_one : (g : ℕ → ℕ) (n a : ℕ) → ((e : ℕ) → a ≤ e → e < a + n → g e ≤ 1)
    → ((d e : ℕ) → a ≤ d → d < e → e < a + n → 0 < g d → 0 < g e → ⊥) → sum_by g (range_with_len a n) ≤ 1
sum-at_most_one g zero a small apart = let e : 0 ≤ 1 = omega arith in e
sum-at_most_one g (suc n) a small apart =
    let first : g a ≤ 1 = small a (omega arith) (omega arith) in
    let rest : sum_by g (range_with_len (a + 1) n) ≤ 1 =
    sum-at_most_one g n (a + 1) (λ e low high. small e (omega arith) (omega arith))
    (λ d e low between high. apart d e (omega arith) between (omega arith)) in
    let whole : sum_by g (a ∷ range_with_len (a + 1) n) ≡ g a + sum_by g (range_with_len (a + 1) n) = sum_by-cons g a (range_with_len (a + 1) n) in
    elim (sum-cases g n (a + 1)) [
      | inl none ↦ omega (arith, whole)
      | inr found ↦
          elim (cases_eq (g a) 0) [
            | inl zero' ↦ omega (arith, whole)
            | inr some ↦ absurd (apart a found.0 (omega arith) (omega (arith, found.1)) (omega (arith, found.2)) (omega arith) found.3)
          ]
    ]

-- how often a block is in a row of blocks: once where it is between its ends, and else not
pub times-range : (x n s : ℕ) → ((times x (range_with_len s n) ≡ 0) × ((x < s) ⊎ (s + n ≤ x)))
    ⊎ ((times x (range_with_len s n) ≡ 1) × (s ≤ x) × (x < s + n))
times-range x zero s = inl (refl, elim (cases_lt x s) [ inl below ↦ inl below | inr above ↦ inr (omega arith) ])
times-range x (suc n) s =
    let worth : ℕ = cond (eqb x s) 1 0 in
    let whole : times x (s ∷ range_with_len (s + 1) n) ≡ worth + times x (range_with_len (s + 1) n) =
    sum_by-cons (λ y. cond (eqb x y) 1 0) s (range_with_len (s + 1) n) in
    elim (cases_eq x s) [
      | inl here ↦
          let one : worth ≡ 1 = cond-true (eqb x s) 1 0 (eq-eqb x s here) in
          elim (times-range x n (s + 1)) [
            | inl out ↦ inr (omega (arith, whole, one, out.0), omega arith, omega arith)
            | inr within ↦ absurd (omega (arith, within.1))
          ]
      | inr other ↦
          let none : worth ≡ 0 = cond-false (eqb x s) 1 0 (ne_eqb x s other) in
          elim (times-range x n (s + 1)) [
            | inl (zero', inl below) ↦ inl (omega (arith, whole, none, zero'), inl (omega arith))
            | inl (zero', inr above) ↦ inl (omega (arith, whole, none, zero'), inr (omega arith))
            | inr within ↦ inr (omega (arith, whole, none, within.0), omega (arith, within.1), omega (arith, within.2))
          ]
    ]

-- how often a block is in the blocks of extents
pub times-blocks_of : (x : ℕ) (es : List Extent) → times x (blocks_of es) ≡ sum_by (λ e. times x (range_with_len e.start e.length)) es
times-blocks_of x [] = refl
times-blocks_of x (f ∷ es) =
    let g : Extent → ℕ = λ e. times x (range_with_len e.start e.length) in
    sum_by-append (λ y. cond (eqb x y) 1 0) (range_with_len f.start f.length) (blocks_of es)
    ∙ ap (λ (k : ℕ). g f + k) (times-blocks_of x es)
    ∙ sym (sum_by-cons g f es)

-- how often block x is in extent e of record j
abbrev times_at : List ℕ → ℕ → ℕ → ℕ → ℕ
times_at b x j e = times x (range_with_len (extent_at b j e).start (extent_at b j e).length)

-- how often block x is in the blocks of record j
abbrev times_in : List ℕ → ℕ → ℕ → ℕ
times_in b x j = times x (blocks_of_slot (inode_in_image b j))

times_at-small : (b : List ℕ) (x j e : ℕ) → times_at b x j e ≤ 1
times_at-small b x j e =
    elim (times-range x (extent_at b j e).length (extent_at b j e).start) [ inl out ↦ omega (arith, out.0) | inr within ↦ omega (arith, within.0) ]

-- a block in two extents is one that they share
shared : (b : List ℕ) (x i d j e : ℕ) → 0 < times_at b x i d → 0 < times_at b x j e → ShareBlock (extent_at b i d) (extent_at b j e)
shared b x i d j e one other =
    elim (times-range x (extent_at b i d).length (extent_at b i d).start) [
      | inl out ↦ absurd (omega (arith, out.0))
      | inr here ↦
          elim (times-range x (extent_at b j e).length (extent_at b j e).start) [
            | inl out ↦ absurd (omega (arith, out.0))
            | inr there ↦
                (omega (arith, here.1, there.2), omega (arith, there.1, here.2), omega (arith, here.1, here.2), omega (arith, there.1, there.2))
          ]
    ]

-- how often a block is in a record that is used, and in one that is free
times_in-used : (b : List ℕ) (x j : ℕ) → used_mark b j ≡ 1 → times_in b x j ≡ sum_by (times_at b x j) (range_with_len 0 (extent_count b j))
times_in-used b x j used =
    ap (λ (inode : Option Inode). times x (blocks_of_slot inode))
    (cond-true (eqb (used_mark b j) 1) (Some (file_in_image b j)) None (eq-eqb (used_mark b j) 1 used))
    ∙ times-blocks_of x (map (extent_at b j) (range_with_len 0 (extent_count b j)))
    ∙ fold-map (λ (a : ℕ) (e : Extent). a + times x (range_with_len e.start e.length)) (extent_at b j) 0 (range_with_len 0 (extent_count b j))

times_in-free : (b : List ℕ) (x j : ℕ) → (used_mark b j ≡ 1 → ⊥) → times_in b x j ≡ 0
times_in-free b x j free =
    ap (λ (inode : Option Inode). times x (blocks_of_slot inode))
    (cond-false (eqb (used_mark b j) 1) (Some (file_in_image b j)) None (ne_eqb (used_mark b j) 1 free))

-- a block of a record is in some extent of it
in_extent : (b : List ℕ) (x j : ℕ) → j < inode_count b → 0 < times_in b x j → (e : ℕ) × IsExtent b j e × (0 < times_at b x j e)
in_extent b x j there some =
    elim (cases_eq (used_mark b j) 1) [
      | inl used ↦
          elim (sum-cases (times_at b x j) (extent_count b j) 0) [
            | inl none ↦ absurd (omega (arith, times_in-used b x j used, none))
            | inr found ↦ (found.0, ((there, used), omega (arith, found.2)), found.3)
          ]
      | inr free ↦ absurd (omega (arith, times_in-free b x j free))
    ]

times_in-small : (b : List ℕ) (x j : ℕ) → Obeys b ExtentShares → j < inode_count b → times_in b x j ≤ 1
times_in-small b x j shares there =
    elim (cases_eq (used_mark b j) 1) [
      | inl used ↦
          let once : sum_by (times_at b x j) (range_with_len 0 (extent_count b j)) ≤ 1 =
          sum-at_most_one (times_at b x j) (extent_count b j) 0 (λ e low high. times_at-small b x j e)
          (λ d e low between high one other.
          shares j d j e ((there, used), omega arith) ((there, used), omega arith) (inr (refl, between)) (shared b x j d j e one other)) in
          omega (arith, times_in-used b x j used, once)
      | inr free ↦ omega (arith, times_in-free b x j free)
    ]

-- how often a block is in the lists of blocks of files
pub times_listed-files : (inodes : List (Option Inode)) (x : ℕ) → times_listed (block_lists inodes) x
    ≡ sum_by (λ inode. times x (blocks_of_slot inode)) inodes
times_listed-files inodes x = fold-map (λ (a : ℕ) (blocks : List ℕ). a + times x blocks) blocks_of_slot 0 inodes

-- and of the volume's files
times_listed-inodes_of : (b : List ℕ) (x : ℕ) → times_listed (block_lists (inodes_of b)) x ≡ sum_by (times_in b x) (range_with_len 0 (inode_count b))
times_listed-inodes_of b x =
    times_listed-files (inodes_of b) x
    ∙ fold-map (λ (a : ℕ) (inode : Option Inode). a + times x (blocks_of_slot inode)) (inode_in_image b) 0 (range_with_len 0 (inode_count b))

-- no block is in two places of the volume's files
pub owned_once : (b : List ℕ) → Obeys b ExtentShares → (x : ℕ) → times_listed (block_lists (inodes_of b)) x ≤ 1
owned_once b shares x =
    subst (λ (n : ℕ). n ≤ 1) (sym (times_listed-inodes_of b x))
    (sum-at_most_one (times_in b x) (inode_count b) 0 (λ j low high. times_in-small b x j shares (omega arith))
    (λ i j low between high one other.
    let (d, here, some) = in_extent b x i (omega arith) one in
    let (e, there, more) = in_extent b x j (omega arith) other in
    shares i d j e here there (inl between) (shared b x i d j e some more)))

-- a file that the volume has is the file of a used record
pub file-is : (b : List ℕ) (j : ℕ) (file : Inode) → get_or (inodes_of b) j None ≡ Some file → IsUsed b j × (file_in_image b j ≡ file)
file-is b j file h =
    elim (cases_lt j (inode_count b)) [
      | inl there ↦
          let d : Option Inode = None in
          let (used, same) = cond_some (eqb (used_mark b j) 1) (file_in_image b j) file (sym (inodes_of-get_or b j d there) ∙ h) in
          ((there, eqb-true (used_mark b j) 1 used), same)
      | inr past ↦
          let d : Option Inode = None in
          let none : get_or (inodes_of b) j d ≡ d = get_or_past (inodes_of b) j d (omega (arith, length-inodes_of b)) in
          absurd (none-some file (sym none ∙ h))
    ]

-- no two files of the volume have one name
pub own_names : (b : List ℕ) → Obeys b NameForm → Obeys b NameFresh → (i j : ℕ) (file other : Inode)
    → get_or (inodes_of b) i None ≡ Some file → get_or (inodes_of b) j None ≡ Some other
    → file.name ≡ other.name → i ≡ j
own_names b form fresh i j file other at at' same =
    let (used, is) = file-is b i file at in
    let (used', is') = file-is b j other at' in
    let names : name_at b i ≡ name_at b j = ap (λ (f : Inode). f.name) is ∙ same ∙ sym (ap (λ (f : Inode). f.name) is') in
    let fields : name_field b i ≡ name_field b j =
    sym (name-field (name_field b i) (form i used)) ∙ ap (λ (n : List ℕ). n ++ replicate (32 - length n) 0) names
    ∙ name-field (name_field b j) (form j used') in
    elim (cases_order i j) [
      | inl equal ↦ equal
      | inr (inl less) ↦ absurd (fresh i j used used' less fields)
      | inr (inr more) ↦ absurd (fresh j i used' used more (sym fields))
    ]
