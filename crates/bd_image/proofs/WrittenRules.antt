-- The image of a sound volume obeys the rules of the header and of the fields of records.
use Rattle.std.proofs.Common.{◌≡◌, ◌≤◌, ◌<◌, ◌+◌, ◌-◌, ◌*◌, ◌⊎◌, inl, inr, ℕ, not, eqb, Option, Some, None}
use Rattle.std.proofs.Common.{length, get_or, refl, ap, sym, ◌∙◌, subst, arith}
use Rattle.std.specs.List.{take_while}
use Rattle.std.specs.Prelude.{codes}
use Rattle.bd_base.specs.declared.volume.Inode.{Inode}
use Rattle.bd_base.specs.declared.volume.Volume.{Volume}
use Rattle.bd_base.specs.Extents.{extents_of}
use Rattle.bd_base.specs.Volumes.{IsSoundVolume}
use Rattle.bd_image.specs.Layout.{block_count, extent_count, inode_count, name_at, name_field, record_place, used_mark}
use Rattle.bd_image.specs.Limits.{FitsRecord}
use Rattle.bd_image.specs.Rules.{Obeys, IsInodeCount, IsNameField, BlockCount, ExtentCount, FreeRecord}
use Rattle.bd_image.specs.Rules.{HeaderRest, InodeCount, Length, Magic, NameForm, NameFresh, Perms, RecordRest}
use Rattle.bd_image.specs.Rules.{UsedMark, Version}
use Rattle.bd_image.specs.Volumes.{image_of}
use Rattle.bd_image.proofs.Fields.{RecordStands, written-count, written-mark, written-name, written-perms}
use Rattle.bd_image.proofs.Names.{name-found}
use Rattle.bd_image.proofs.Places.{ImageStands-from_files, file-stands, fits-file}
use Rattle.bd_image.proofs.Standing.{Stands-number, Stands-take, Stands-zero}
use Rattle.bd_image.proofs.Written.{file-of_used, written-block_count, written-free, written-inode_count, written-length, written-there}

-- ---- the header

-- the image has a length that an image may have
pub written-obeys-Length : (v : Volume) → IsSoundVolume v → Obeys (image_of v) Length
written-obeys-Length v h =
    let all : length (image_of v) ≡ 4096 * v.total = written-length v h in
    let least : 20 ≤ v.total = h.files.enough_blocks in
    let most : v.total ≤ 16384 = h.files.valid.few_blocks in
    record { whole_blocks = omega arith; least = omega arith; most = omega arith }

-- it begins with the magic bytes
pub written-obeys-Magic : (v : Volume) → IsSoundVolume v → Obeys (image_of v) Magic
written-obeys-Magic v h = Stands-take (image_of v) 0 8 (codes "BYPDFS01") refl (ImageStands-from_files v h.files).header.magic

-- its version is the one of the format
pub written-obeys-Version : (v : Volume) → IsSoundVolume v → Obeys (image_of v) Version
written-obeys-Version v h = Stands-number (image_of v) 8 4 1 (omega arith) (ImageStands-from_files v h.files).header.version

-- its number of blocks is the one of its length
pub written-obeys-BlockCount : (v : Volume) → IsSoundVolume v → Obeys (image_of v) BlockCount
written-obeys-BlockCount v h =
    let all : length (image_of v) ≡ 4096 * v.total = written-length v h in
    let blocks : block_count (image_of v) ≡ v.total = written-block_count v h in
    let e : v.total * 4096 ≡ length (image_of v) = omega arith in
    ap (λ (k : ℕ). k * 4096) blocks ∙ e

-- its number of records is one that an image may have
pub written-obeys-InodeCount : (v : Volume) → IsSoundVolume v → Obeys (image_of v) InodeCount
written-obeys-InodeCount v h =
    subst IsInodeCount (sym (written-inode_count v h))
    (record {
      whole_blocks = h.files.whole_blocks;
      least = h.files.some_room;
      most =
          h.files.valid.few_files;
    })

-- the rest of its first block is zero
pub written-obeys-HeaderRest : (v : Volume) → IsSoundVolume v → Obeys (image_of v) HeaderRest
written-obeys-HeaderRest v h place low high =
    Stands-zero (image_of v) 20 4076 place low high (ImageStands-from_files v h.files).header.rest

-- ---- records, used or free

-- the record of a slot: all zeros, or marked as used
pub slot-cases : (v : Volume) (j : ℕ) → IsSoundVolume v → j < inode_count (image_of v)
    → (get_or v.inodes j None ≡ None) ⊎ ((file : Inode) × (get_or v.inodes j None ≡ Some file) × (used_mark (image_of v) j ≡ 1))
slot-cases v j h there = cases (get_or v.inodes j None) refl
  where
    cases : (slot : Option Inode) → get_or v.inodes j None ≡ slot
        → (get_or v.inodes j None ≡ None) ⊎ ((file : Inode) × (get_or v.inodes j None ≡ Some file) × (used_mark (image_of v) j ≡ 1))
    cases None at = inl at
    cases (Some file) at = inr (file, at, written-mark (image_of v) (record_place j) file (file-stands v j file h.files at))

-- each record is marked as used or as free
pub written-obeys-UsedMark : (v : Volume) → IsSoundVolume v → Obeys (image_of v) UsedMark
written-obeys-UsedMark v h j there =
    elim (slot-cases v j h there) [
      | inl free ↦
          let none : used_mark (image_of v) j ≡ 0 = written-free v j (record_place j) h free (written-there v j h there) (omega arith) (omega arith) in
          omega (arith, none)
      | inr used ↦ omega (arith, used.2)
    ]

-- a free record is all zeros
pub written-obeys-FreeRecord : (v : Volume) → IsSoundVolume v → Obeys (image_of v) FreeRecord
written-obeys-FreeRecord v h j place there unused low high =
    elim (slot-cases v j h there) [
      | inl free ↦ written-free v j place h free (written-there v j h there) low high
      | inr used ↦ absurd (omega (arith, used.2, unused))
    ]

-- ---- the fields of a used record

-- its permissions are four bits
pub written-obeys-Perms : (v : Volume) → IsSoundVolume v → Obeys (image_of v) Perms
written-obeys-Perms v h j used =
    let (file, at) = file-of_used v j h used in
    let few : file.perms < 16 = h.files.perms j file at in
    omega (arith, written-perms (image_of v) (record_place j) file (file-stands v j file h.files at))

-- it has no more extents than a record has room for
pub written-obeys-ExtentCount : (v : Volume) → IsSoundVolume v → Obeys (image_of v) ExtentCount
written-obeys-ExtentCount v h j used =
    let (file, at) = file-of_used v j h used in
    let fits : FitsRecord file = fits-file v.total v.inodes j file h.files at in
    let few : length (extents_of file.blocks) ≤ 24 = fits.extents in
    omega (arith, written-count (image_of v) j file fits (file-stands v j file h.files at))

-- the field of a file's name
pub written-name_field : (v : Volume) (j : ℕ) (file : Inode) → IsSoundVolume v
    → get_or v.inodes j None ≡ Some file → IsNameField (name_field (image_of v) j)
written-name_field v j file h at = record {
  name = file.name;
  is_name = h.files.names j file at;
  padded = written-name (image_of v) j file (fits-file v.total v.inodes j file h.files at) (file-stands v j file h.files at);
}

-- the name that is read from it
pub written-name_at : (v : Volume) (j : ℕ) (file : Inode) → IsSoundVolume v → get_or v.inodes j None ≡ Some file
    → name_at (image_of v) j ≡ file.name
unfolding written-name_field
written-name_at v j file h at = name-found (name_field (image_of v) j) (written-name_field v j file h at)

-- each used record has a name and zeros behind it
pub written-obeys-NameForm : (v : Volume) → IsSoundVolume v → Obeys (image_of v) NameForm
written-obeys-NameForm v h j used = let (file, at) = file-of_used v j h used in written-name_field v j file h at

-- no two used records have one name
pub written-obeys-NameFresh : (v : Volume) → IsSoundVolume v → Obeys (image_of v) NameFresh
written-obeys-NameFresh v h i j used used' less same =
    let (file, at) = file-of_used v i h used in
    let (other, at') = file-of_used v j h used' in
    let names : file.name ≡ other.name =
    sym (written-name_at v i file h at) ∙ ap (take_while (λ c. not (eqb c 0))) same ∙ written-name_at v j other h at' in
    let one : i ≡ j = h.files.valid.names_differ i j file other at at' names in
    omega arith

-- what the extents of a used record leave of it is zero
pub written-obeys-RecordRest : (v : Volume) → IsSoundVolume v → Obeys (image_of v) RecordRest
written-obeys-RecordRest v h j place used rest =
    let (file, at) = file-of_used v j h used in
    let fits : FitsRecord file = fits-file v.total v.inodes j file h.files at in
    let stands : RecordStands (image_of v) (record_place j) file = file-stands v j file h.files at in
    let n : ℕ = length (extents_of file.blocks) in
    let few : n ≤ 24 = fits.extents in
    let count : extent_count (image_of v) j ≡ n = written-count (image_of v) j file fits stands in
    Stands-zero (image_of v) (record_place j + 48 + 8 * n) (8 * (24 - n) + 16) place (omega (arith, count, rest.0)) (omega (arith, rest.1)) stands.rest
