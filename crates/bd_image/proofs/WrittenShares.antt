-- No two extents of the image of a sound volume share a block.
use Rattle.std.proofs.Common.{◌≡◌, ◌≤◌, ◌<◌, ◌+◌, inl, inr, ℕ, cond, eqb, List, Option, None, length, get_or}
use Rattle.std.proofs.Common.{take, sym, ap, ◌∙◌, subst, arith}
use Rattle.std.proofs.lemmas.Bool.{cases_lt, cond-true, eq-eqb}
use Rattle.std.proofs.lemmas.List.{get_or-take, length-take}
use Rattle.std.proofs.lemmas.List.Sums.{get_or-le-sum_by, sum_by_more_le}
use Rattle.std.specs.List.{Contains, range_with_len, sum_by}
use Rattle.bd_base.specs.declared.volume.Extent.{Extent}
use Rattle.bd_base.specs.declared.volume.Inode.{Inode}
use Rattle.bd_base.specs.declared.volume.Volume.{Volume}
use Rattle.bd_base.specs.Extents.{extents_of}
use Rattle.bd_base.specs.Inodes.{blocks_of_slot}
use Rattle.bd_base.specs.Volumes.{IsSoundVolume}
use Rattle.bd_image.specs.Layout.{extent_at}
use Rattle.bd_image.specs.Rules.{ExtentShares, Obeys, ShareBlock}
use Rattle.bd_image.specs.Sharing.{IsInExtent}
use Rattle.bd_image.specs.Volumes.{image_of}
use Rattle.bd_base.proofs.Ranges.{range-of}
use Rattle.bd_image.proofs.Owned.{times, times-blocks_of, times_listed-files}
use Rattle.bd_extents.proofs.ExtentLists.{blocks_of-extents_of}
use Rattle.bd_image.proofs.Written.{written-inode_count}
use Rattle.bd_image.proofs.WrittenExtents.{IsWritten, written}

-- two terms of a sum are within it
sum_by-two : {X : Type 0} (f : X → ℕ) (xs : List X) (i j : ℕ) (d : X) → i < j → j < length xs
    → f (get_or xs i d) + f (get_or xs j d) ≤ sum_by f xs
sum_by-two f xs i j d less low =
    let first : f (get_or (take j xs) i d) ≤ sum_by f (take j xs) = get_or-le-sum_by f (take j xs) i d (omega (arith, length-take j xs)) in
    let same : f (get_or (take j xs) i d) ≡ f (get_or xs i d) = ap f (get_or-take j xs i d less) in
    omega (arith, sum_by_more_le f xs j d low)

-- a block that is in a list is there at least once
times-of : (x : ℕ) (xs : List ℕ) → Contains xs x → 1 ≤ times x xs
times-of x xs (k, low, at) =
    let f : ℕ → ℕ = λ y. cond (eqb x y) 1 0 in
    let here : f (get_or xs k x) ≡ 1 = cond-true (eqb x (get_or xs k x)) 1 0 (eq-eqb x (get_or xs k x) (sym at)) in
    let within : f (get_or xs k x) ≤ times x xs = get_or-le-sum_by f xs k x low in
    omega arith

-- how often a block is in an extent
abbrev times_within : ℕ → Extent → ℕ
times_within x e = times x (range_with_len e.start e.length)

-- a block that lies in an extent is there at least once
within-of : (x : ℕ) (e : Extent) → IsInExtent e x → 1 ≤ times_within x e
within-of x e h = times-of x (range_with_len e.start e.length) (range-of e.start e.length x h)

-- extents that share a block have one in common
in_common : (d e : Extent) → ShareBlock d e → (x : ℕ) × IsInExtent d x × IsInExtent e x
in_common d e (below, above, some, more) =
    elim (cases_lt d.start e.start) [
      | inl less ↦ (e.start, (omega arith, omega arith), (omega arith, omega arith))
      | inr other ↦ (d.start, (omega arith, omega arith), (omega arith, omega arith))
    ]

-- how often a block is in blocks, by their extents
times-extents : (x : ℕ) (blocks : List ℕ) → times x blocks ≡ sum_by (times_within x) (extents_of blocks)
times-extents x blocks = ap (times x) (sym (blocks_of-extents_of blocks)) ∙ times-blocks_of x (extents_of blocks)

-- a block in an extent of blocks is one of them
times-one : (x : ℕ) (blocks : List ℕ) (e : ℕ) (d : Extent) → e < length (extents_of blocks)
    → IsInExtent (get_or (extents_of blocks) e d) x → 1 ≤ times x blocks
times-one x blocks e d low h =
    omega (arith, times-extents x blocks, get_or-le-sum_by (times_within x) (extents_of blocks) e d low, within-of x (get_or (extents_of blocks) e d) h)

-- a block in two extents of blocks is there twice
times-two : (x : ℕ) (blocks : List ℕ) (i j : ℕ) (d : Extent) → i < j → j < length (extents_of blocks)
    → IsInExtent (get_or (extents_of blocks) i d) x → IsInExtent (get_or (extents_of blocks) j d) x → 2 ≤ times x blocks
times-two x blocks i j d less low h k =
    omega (
      arith,
      times-extents x blocks,
      sum_by-two (times_within x) (extents_of blocks) i j d less low,
      within-of x (get_or (extents_of blocks) i d) h,
      within-of x (get_or (extents_of blocks) j d) k,
    )

-- a block that two extents share would be listed twice, in one file or in two
pub written-obeys-ExtentShares : (v : Volume) → IsSoundVolume v → Obeys (image_of v) ExtentShares
written-obeys-ExtentShares v sound i d j e (used, low) (used', low') earlier share =
    let b : List ℕ = image_of v in
    let w : IsWritten v b i = written v sound i used in
    let w' : IsWritten v b j = written v sound j used' in
    let (x, here, there) = in_common (extent_at b i d) (extent_at b j e) share in
    let o : Extent = extent_at b i d in
    let f : Option Inode → ℕ = λ inode. times x (blocks_of_slot inode) in
    let none : Option Inode = None in
    let one : IsInExtent (get_or (extents_of w.file.blocks) d o) x = subst (λ (g : Extent). IsInExtent g x) (w.extent d o low) here in
    let other : IsInExtent (get_or (extents_of w'.file.blocks) e o) x = subst (λ (g : Extent). IsInExtent g x) (w'.extent e o low') there in
    let within : j < length v.inodes = omega (arith, used'.0, written-inode_count v sound) in
    let once : sum_by f v.inodes ≤ 1 = omega (arith, sound.files.valid.owned_once x, times_listed-files v.inodes x) in
    let of_i : f (get_or v.inodes i none) ≡ times x w.file.blocks = ap f w.at in
    let of_j : f (get_or v.inodes j none) ≡ times x w'.file.blocks = ap f w'.at in
    elim earlier [
      | inl less ↦
          omega (
            arith,
            once,
            of_i,
            of_j,
            sum_by-two f v.inodes i j none less within,
            times-one x w.file.blocks d o (omega (arith, low, w.count)) one,
            times-one x w'.file.blocks e o (omega (arith, low', w'.count)) other,
          )
      | inr (same, less) ↦
          let both : extent_at b i d ≡ get_or (extents_of w'.file.blocks) d o =
          ap (λ (k : ℕ). extent_at b k d) same ∙ w'.extent d o (omega (arith, low', less)) in
          let one' : IsInExtent (get_or (extents_of w'.file.blocks) d o) x = subst (λ (g : Extent). IsInExtent g x) both here in
          omega (
            arith,
            once,
            of_j,
            get_or-le-sum_by f v.inodes j none within,
            times-two x w'.file.blocks d e o less (omega (arith, low', w'.count)) one' other,
          )
    ]
