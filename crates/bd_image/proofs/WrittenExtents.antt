-- The extents of the image of a sound volume: those of its files, in the data area, and maximal.
use Rattle.std.proofs.Common.{◌≡◌, ◌<◌, ◌+◌, ℕ, List, None, Some, length, get_or, sym, ap, ◌∙◌, subst, arith}
use Rattle.std.proofs.lemmas.List.FromFn.{get_or-map-range_with_len, length-map-range_with_len}
use Rattle.bd_base.specs.declared.volume.Extent.{Extent}
use Rattle.bd_base.specs.declared.volume.Inode.{Inode}
use Rattle.bd_base.specs.declared.volume.Volume.{Volume}
use Rattle.bd_base.specs.Extents.{blocks_of, extents_of}
use Rattle.bd_base.specs.Files.{blocks_for}
use Rattle.bd_base.specs.Inodes.{IsValidFile}
use Rattle.bd_base.specs.Volumes.{IsSoundVolume}
use Rattle.bd_image.specs.Layout.{IsUsed, blocks_in_image, extent_at, extent_count, inode_count, size_in_image}
use Rattle.bd_image.specs.Rules.{ExtentJoins, ExtentRange, IsInDataArea, Obeys, Size}
use Rattle.bd_image.specs.Volumes.{image_of}
use Rattle.bd_image.proofs.InDataArea.{in_data_area}
use Rattle.bd_extents.proofs.ExtentLists.{AreMaximal-extents_of, blocks_of-extents_of}
use Rattle.bd_image.proofs.ExtentBlocks.{apart-at}
use Rattle.bd_image.proofs.Written.{written-block_count, written-file, written-inode_count}

-- record j says a file of the volume: its size, its blocks, and the extents of its blocks
pub record IsWritten (v : Volume) (b : List ℕ) (j : ℕ) : Type 0 where
  pub file : Inode
  pub at : get_or v.inodes j None ≡ Some file
  pub size : size_in_image b j ≡ file.size
  pub blocks : blocks_in_image b j ≡ file.blocks
  pub count : extent_count b j ≡ length (extents_of file.blocks)
  pub extent : (e : ℕ) (d : Extent) → e < extent_count b j → extent_at b j e ≡ get_or (extents_of file.blocks) e d
  pub valid : IsValidFile v.total (length v.inodes) file

-- so does each used record of the image of a sound volume
pub written : (v : Volume) → IsSoundVolume v → (j : ℕ) → IsUsed (image_of v) j → IsWritten v (image_of v) j
written v sound j used =
    let b : List ℕ = image_of v in
    let (file, at, size, extents) = written-file v sound j used in
    record {
      file = file;
      at = at;
      size = size;
      blocks = ap blocks_of extents ∙ blocks_of-extents_of file.blocks;
      count = sym (length-map-range_with_len (extent_at b j) 0 (extent_count b j)) ∙ ap length extents;
      extent = λ e d low.
          let here : 0 + e ≡ e = omega arith in
          sym (get_or-map-range_with_len (extent_at b j) 0 (extent_count b j) e e d low here)
          ∙ ap (λ (es : List Extent). get_or es e d) extents;
      valid = sound.files.valid.each j file at;
    }

-- the size of a file is that of its record, and so is the number of its blocks
pub written-obeys-Size : (v : Volume) → IsSoundVolume v → Obeys (image_of v) Size
written-obeys-Size v sound j used =
    let w : IsWritten v (image_of v) j = written v sound j used in
    (rw w.size w.valid.size_in_range, ap length w.blocks ∙ w.valid.enough_blocks ∙ ap blocks_for (sym w.size))

-- the extents of a record are as long as can be, so none begins where the one before it ends
pub written-obeys-ExtentJoins : (v : Volume) → IsSoundVolume v → Obeys (image_of v) ExtentJoins
written-obeys-ExtentJoins v sound j e (used, low) =
    let b : List ℕ = image_of v in
    let w : IsWritten v b j = written v sound j used in
    let d : Extent = extent_at b j e in
    let here : extent_at b j e ≡ get_or (extents_of w.file.blocks) e d = w.extent e d (omega arith) in
    let next : extent_at b j (e + 1) ≡ get_or (extents_of w.file.blocks) (e + 1) d = w.extent (e + 1) d low in
    let apart = apart-at (extents_of w.file.blocks) e d (AreMaximal-extents_of w.file.blocks) (omega (arith, low, w.count)) in
    λ joins. apart (sym (ap (λ (x : Extent). x.start) next) ∙ joins ∙ ap (λ (x : Extent). x.start + x.length) here)

-- the blocks of a file are data blocks, so its extents lie in the data area
pub written-obeys-ExtentRange : (v : Volume) → IsSoundVolume v → Obeys (image_of v) ExtentRange
written-obeys-ExtentRange v sound j e (used, low) =
    let b : List ℕ = image_of v in
    let w : IsWritten v b j = written v sound j used in
    let d : Extent = extent_at b j e in
    let inside : IsInDataArea v.total (length v.inodes) (get_or (extents_of w.file.blocks) e d) =
    in_data_area v.total (length v.inodes) w.file.blocks e d w.valid.in_data_area (omega (arith, low, w.count)) in
    subst (λ (n : ℕ). IsInDataArea n (inode_count b) (extent_at b j e)) (sym (written-block_count v sound))
    (subst (λ (m : ℕ). IsInDataArea v.total m (extent_at b j e)) (sym (written-inode_count v sound))
    (subst (IsInDataArea v.total (length v.inodes)) (sym (w.extent e d low)) inside))
