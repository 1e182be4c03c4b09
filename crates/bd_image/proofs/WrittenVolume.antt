-- The image of a sound volume says this volume.
use Rattle.std.proofs.Common.{◌≡◌, ◌<◌, inl, inr, ℕ, eqb, List, ◌++◌, Option, Some, None, length, map, drop}
use Rattle.std.proofs.Common.{get_or, replicate, refl, ap, sym, ◌∙◌, arith}
use Rattle.std.proofs.lemmas.Bool.{cond-false, cond-true, eq-eqb, ne_eqb}
use Rattle.std.proofs.lemmas.List.{take-append-drop}
use Rattle.std.proofs.lemmas.List.FromFn.{fill_by_all}
use Rattle.std.specs.List.{range_with_len}
use Rattle.bd_base.specs.declared.volume.Inode.{Inode}
use Rattle.bd_base.specs.declared.volume.Volume.{Volume}
use Rattle.bd_base.specs.Extents.{blocks_of}
use Rattle.bd_base.specs.Volumes.{IsSoundVolume, metadata_size}
use Rattle.bd_image.specs.Layout.{blocks_in_image, block_count, inode_count, name_at, owner_at, perms_at, record_place, size_in_image, used_mark}
use Rattle.bd_image.specs.Volumes.{image_of, inode_in_image, volume_of}
use Rattle.bd_extents.proofs.ExtentLists.{blocks_of-extents_of}
use Rattle.bd_image.proofs.Fields.{RecordStands, written-owner, written-perms}
use Rattle.bd_image.proofs.Places.{file-stands}
use Rattle.bd_image.proofs.Taken.{file_in_image, inodes_of}
use Rattle.bd_image.proofs.Written.{written-block_count, written-data, written-fields, written-free, written-inode_count}
use Rattle.bd_image.proofs.WrittenRules.{slot-cases, written-name_at}

-- files of the same fields are one
same-file : (n n' : List ℕ) (o o' p p' s s' : ℕ) (b b' : List ℕ) → n ≡ n' → o ≡ o' → p ≡ p' → s ≡ s' → b ≡ b'
    → (let f : Inode = record { name = n; owner = o; perms = p; size = s; blocks = b } in
    let g : Inode = record { name = n'; owner = o'; perms = p'; size = s'; blocks = b' } in f ≡ g)
same-file n n' o o' p p' s s' b b' same-n same-o same-p same-s same-b = cc

-- the file that a record says is the file that the volume has there
written-file_in_image : (v : Volume) (j : ℕ) (file : Inode) → IsSoundVolume v
    → get_or v.inodes j None ≡ Some file → file_in_image (image_of v) j ≡ file
written-file_in_image v j file h at =
    let stands : RecordStands (image_of v) (record_place j) file = file-stands v j file h.files at in
    let (size, extents) = written-fields v j file h at in
    same-file (name_at (image_of v) j) file.name (owner_at (image_of v) j) file.owner (perms_at (image_of v) j) file.perms (size_in_image (image_of v) j) file.size
    (blocks_in_image (image_of v) j) file.blocks
    (written-name_at v j file h at)
    (written-owner (image_of v) j file (h.owners j file at) stands)
    (written-perms (image_of v) (record_place j) file stands)
    size
    (ap blocks_of extents ∙ blocks_of-extents_of file.blocks)

-- the slot that a record says is the volume's
written-slot : (v : Volume) (j : ℕ) → IsSoundVolume v → j < length v.inodes → get_or v.inodes j None ≡ inode_in_image (image_of v) j
written-slot v j h there =
    elim (slot-cases v j h (omega (arith, written-inode_count v h))) [
      | inl free ↦
          let unused : used_mark (image_of v) j ≡ 1 → ⊥ =
          λ used. omega (
            arith,
            used,
            written-free v j (record_place j) h free there (omega arith)
                (omega arith),
          ) in
          free ∙ sym (cond-false (eqb (used_mark (image_of v) j) 1) (Some (file_in_image (image_of v) j)) None (ne_eqb (used_mark (image_of v) j) 1 unused))
      | inr (file, at, used) ↦
          at ∙ ap Some (sym (written-file_in_image v j file h at))
          ∙ sym (cond-true (eqb (used_mark (image_of v) j) 1) (Some (file_in_image (image_of v) j)) None (eq-eqb (used_mark (image_of v) j) 1 used))
    ]

-- the files that the records say are the files of the volume
written-inodes : (v : Volume) → IsSoundVolume v → inodes_of (image_of v) ≡ v.inodes
written-inodes v h =
    ap (λ (n : ℕ). map (inode_in_image (image_of v)) (range_with_len 0 n)) (written-inode_count v h)
    ∙ sym (fill_by_all (inode_in_image (image_of v)) v.inodes (length v.inodes) None refl (λ j low. written-slot v j h low))

-- the metadata as zeros, and the bytes behind it
written-bytes : (v : Volume) → IsSoundVolume v
    → replicate (metadata_size (inode_count (image_of v))) 0 ++ drop (metadata_size (inode_count (image_of v))) (image_of v) ≡ v.bytes
written-bytes v h =
    let m : ℕ = metadata_size (length v.inodes) in
    ap (λ (n : ℕ). replicate (metadata_size n) 0 ++ drop (metadata_size n) (image_of v)) (written-inode_count v h)
    ∙ ap (λ (l : List ℕ). replicate m 0 ++ l) (written-data v h)
    ∙ ap (λ (l : List ℕ). l ++ drop m v.bytes) (sym h.metadata)
    ∙ take-append-drop m v.bytes

-- volumes of the same parts are one
same-volume : (t t' : ℕ) (i i' : List (Option Inode)) (b b' : List ℕ) → t ≡ t' → i ≡ i' → b ≡ b'
    → (let v : Volume = record { total = t; inodes = i; bytes = b } in let w : Volume = record { total = t'; inodes = i'; bytes = b' } in v ≡ w)
same-volume t t' i i' b b' same-t same-i same-b = cc

-- the volume that the image of a sound volume says is this volume
pub volume-written : (v : Volume) → IsSoundVolume v → volume_of (image_of v) ≡ v
unfolding volume_of
volume-written v h =
    same-volume (block_count (image_of v)) v.total (inodes_of (image_of v)) v.inodes
    (replicate (metadata_size (inode_count (image_of v))) 0 ++ drop (metadata_size (inode_count (image_of v))) (image_of v)) v.bytes
    (written-block_count v h) (written-inodes v h) (written-bytes v h)
