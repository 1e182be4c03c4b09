-- What the image of a sound volume reads back as: as many records and blocks as the volume has, its files in its records, its bitmap and its bytes.
use Rattle.std.proofs.Common.{◌≡◌, ◌≤◌, ◌<◌, ◌+◌, ◌-◌, ◌*◌, ℕ, Option, Some, None, length, take, drop, get_or}
use Rattle.std.proofs.Common.{refl, ap, sym, ◌∙◌, subst, arith}
use Rattle.bd_base.specs.declared.limits.TheConstants.{BLOCK_SIZE}
use Rattle.bd_base.specs.declared.volume.Inode.{Inode}
use Rattle.bd_base.specs.declared.volume.Volume.{Volume}
use Rattle.bd_base.specs.Extents.{extents_of}
use Rattle.bd_base.specs.Volumes.{IsSoundVolume, metadata_size}
use Rattle.bd_image.specs.declared.layout.TheConstants.{BITMAP_PLACE}
use Rattle.bd_image.specs.Layout.{IsUsed, block_count, extents_at, inode_count, record_place, size_in_image, used_mark}
use Rattle.bd_image.specs.Volumes.{bitmap_bytes, image_of, record_bytes}
use Rattle.bd_image.proofs.Fields.{RecordStands, written-extents, written-mark, written-size}
use Rattle.bd_image.proofs.InDataArea.{in_data_area}
use Rattle.bd_image.proofs.Places.{ImageStands-from_files, file-stands, file-there, fits-file, length-bitmap, record-stands}
use Rattle.bd_image.proofs.Standing.{Stands, Stands-number, Stands-take, Stands-zero}
use Rattle.bd_image.proofs.Whole.{data_place}

-- the image of a sound volume has as many records as the volume has slots
pub written-inode_count : (v : Volume) → IsSoundVolume v → inode_count (image_of v) ≡ length v.inodes
written-inode_count v h =
    let few : length v.inodes ≤ 256 = h.files.valid.few_files in
    Stands-number (image_of v) 16 4 (length v.inodes) (omega arith) (ImageStands-from_files v h.files).header.records

-- and as many blocks
pub written-block_count : (v : Volume) → IsSoundVolume v → block_count (image_of v) ≡ v.total
written-block_count v h =
    let few : v.total ≤ 16384 = h.files.valid.few_blocks in
    Stands-number (image_of v) 12 4 v.total (omega arith) (ImageStands-from_files v h.files).header.blocks

-- and as many bytes as its blocks have
pub written-length : (v : Volume) → IsSoundVolume v → length (image_of v) ≡ BLOCK_SIZE * v.total
written-length v h =
    let few : length v.inodes ≤ 256 = h.files.valid.few_files in
    let many : 20 ≤ v.total = h.files.enough_blocks in
    let all : length v.bytes ≡ 4096 * v.total = h.all_bytes in
    (ImageStands-from_files v h.files).whole
    ∙ (let e : 8192 + 256 * length v.inodes + (length v.bytes - (8192 + 256 * length v.inodes)) ≡ 4096 * v.total = omega arith in e)

-- the bytes behind the metadata are those of the volume
pub written-data : (v : Volume) → IsSoundVolume v → drop (metadata_size (length v.inodes)) (image_of v) ≡ drop (metadata_size (length v.inodes)) v.bytes
written-data v h =
    let start : metadata_size (length v.inodes) ≡ 8192 + 256 * length v.inodes = data_place (length v.inodes) h.files.whole_blocks in
    ap (λ (k : ℕ). drop k (image_of v)) start ∙ (ImageStands-from_files v h.files).behind ∙ sym (ap (λ (k : ℕ). drop k v.bytes) start)

-- the second block is the bitmap
pub written-bitmap : (v : Volume) → IsSoundVolume v → take BLOCK_SIZE (drop BITMAP_PLACE (image_of v)) ≡ bitmap_bytes v.inodes
written-bitmap v h = Stands-take (image_of v) 4096 4096 (bitmap_bytes v.inodes) (length-bitmap 4096 v.inodes) (ImageStands-from_files v h.files).bitmap

-- ---- records

-- each slot has a record
pub written-there : (v : Volume) (j : ℕ) → IsSoundVolume v → j < inode_count (image_of v) → j < length v.inodes
written-there v j h low = omega (arith, low, written-inode_count v h)

-- the record of a file is used
pub written-used : (v : Volume) → IsSoundVolume v → (j : ℕ) (file : Inode) → get_or v.inodes j None ≡ Some file → IsUsed (image_of v) j
written-used v h j file at = (
  omega (arith, written-inode_count v h, file-there v.inodes j file at),
  written-mark (image_of v) (record_place j) file (file-stands v j file h.files at),
)

-- the record of a free slot is all zeros
pub written-free : (v : Volume) (j place : ℕ) → IsSoundVolume v → get_or v.inodes j None ≡ None
    → j < length v.inodes → record_place j ≤ place → place < record_place j + 256
    → get_or (image_of v) place 0 ≡ 0
written-free v j place h free there low high =
    Stands-zero (image_of v) (record_place j) 256 place low high
    (subst (λ (slot : Option Inode). Stands (image_of v) (record_place j) (record_bytes slot)) free (record-stands v j h.files there))

-- the file of a used record
pub file-of_used : (v : Volume) (j : ℕ) → IsSoundVolume v → IsUsed (image_of v) j → (file : Inode) × (get_or v.inodes j None ≡ Some file)
file-of_used v j h used = found (get_or v.inodes j None) refl
  where
    found : (slot : Option Inode) → get_or v.inodes j None ≡ slot → (file : Inode) × (get_or v.inodes j None ≡ Some file)
    found None at =
        let none : used_mark (image_of v) j ≡ 0 =
        written-free v j (record_place j) h at (written-there v j h used.0) (omega arith) (omega arith) in
        absurd (omega (arith, none, used.1))
    found (Some file) at = (file, at)

-- the fields of a file's record are those of the file
pub written-fields : (v : Volume) (j : ℕ) (file : Inode) → IsSoundVolume v → get_or v.inodes j None ≡ Some file
    → (size_in_image (image_of v) j ≡ file.size) × (extents_at (image_of v) j ≡ extents_of file.blocks)
written-fields v j file h at =
    let stands : RecordStands (image_of v) (record_place j) file = file-stands v j file h.files at in
    let size : file.size ≤ 16777216 = (h.files.valid.each j file at).size_in_range in
    let few : v.total ≤ 16384 = h.files.valid.few_blocks in
    let m : ℕ = length v.inodes in (
      written-size (image_of v) j file (omega arith) stands,
      written-extents (image_of v) j v.total m file (omega arith)
          (λ e d low. in_data_area v.total m file.blocks e d (h.files.valid.each j file at).in_data_area low)
          (fits-file v.total v.inodes j file h.files at) stands,
    )

-- a used record has a file, whose fields are those of the record
pub written-file : (v : Volume) → IsSoundVolume v → (j : ℕ) → IsUsed (image_of v) j →
    (file : Inode) × (get_or v.inodes j None ≡ Some file) × (size_in_image (image_of v) j ≡ file.size) × (extents_at (image_of v) j ≡ extents_of file.blocks)
written-file v h j used =
    let (file, at) = file-of_used v j h used in
    let (size, extents) = written-fields v j file h at in
    (file, at, size, extents)
