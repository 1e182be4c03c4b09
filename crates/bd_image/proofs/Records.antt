-- The records of an image are those of its volume's files.
use Rattle.std.proofs.Common.{◌≡◌, ◌≤◌, ◌<◌, ◌+◌, ◌-◌, ◌*◌, inl, inr, ℕ, eqb, List, [], ◌∷◌, ◌++◌, Some, None}
use Rattle.std.proofs.Common.{length, map, replicate, refl, ap, sym, ◌∙◌, arith, append_assoc}
use Rattle.std.proofs.lemmas.Bool.{cases_eq, cond-false, cond-true, eq-eqb, ne_eqb}
use Rattle.std.proofs.lemmas.List.Folds.{flat_map-map}
use Rattle.std.proofs.lemmas.List.FromFn.{length-map-range_with_len}
use Rattle.std.specs.List.{flat_map, range_with_len}
use Rattle.byteorder.specs.Endian.{little_bytes}
use Rattle.bd_base.specs.declared.volume.Extent.{Extent}
use Rattle.bd_base.specs.Bytes.{AreBytes}
use Rattle.bd_base.specs.Extents.{AreMaximal, extents_of}
use Rattle.bd_image.specs.Layout.{IsUsed, blocks_in_image, extent_at, extent_count, extent_place, extents_at}
use Rattle.bd_image.specs.Layout.{inode_count, name_at, name_field, owner_at, perms_at, record_place, size_in_image}
use Rattle.bd_image.specs.Layout.{used_mark}
use Rattle.bd_image.specs.Rules.{Obeys, ExtentCount, ExtentJoins, ExtentRange, FreeRecord, IsNameField, NameForm, RecordRest, UsedMark}
use Rattle.bd_image.specs.Volumes.{extent_bytes, file_bytes, inode_in_image, record_bytes}
use Rattle.bd_extents.proofs.ExtentLists.{extents_of-blocks_of}
use Rattle.bd_image.proofs.ExtentBlocks.{AreMaximal-map}
use Rattle.bd_image.proofs.Names.{name-field}
use Rattle.bd_image.proofs.Parts.{part, part-add, part-number, part-one, part-pieces, part-zeros, same_append}
use Rattle.bd_image.proofs.Taken.{file_in_image, inodes_of}

-- the extents of a used record are maximal
pub AreMaximal-extents_at : (b : List ℕ) (j : ℕ) → Obeys b ExtentRange → Obeys b ExtentJoins → IsUsed b j → AreMaximal (extents_at b j)
AreMaximal-extents_at b j range joins used =
    AreMaximal-map (extent_at b j) (extent_count b j) 0
    (λ e low high. (range j e (used, omega arith)).not_empty)
    (λ e low high. joins j e (used, omega arith))

-- the extents that its blocks give are its extents
pub extents_of-blocks_in_image : (b : List ℕ) (j : ℕ) → Obeys b ExtentRange → Obeys b ExtentJoins → IsUsed b j
    → extents_of (blocks_in_image b j) ≡ extents_at b j
extents_of-blocks_in_image b j range joins used = extents_of-blocks_of (extents_at b j) (AreMaximal-extents_at b j range joins used)

extent-part : (b : List ℕ) (j e : ℕ) → AreBytes b → extent_place j e + 8 ≤ length b → extent_bytes (extent_at b j e) ≡ part b (extent_place j e) 8
extent-part b j e are within =
    same_append (part-number 4 b (extent_place j e) are (omega arith)) (part-number 4 b (extent_place j e + 4) are (omega arith))
    ∙ sym (part-add b (extent_place j e) 4 4)

extents-part : (b : List ℕ) (j n : ℕ) → AreBytes b → record_place j + 48 + 8 * n ≤ length b
    → flat_map extent_bytes (map (extent_at b j) (range_with_len 0 n)) ≡ part b (record_place j + 48) (8 * n)
extents-part b j n are within =
    let at : record_place j + 48 + 8 * 0 ≡ record_place j + 48 = omega arith in
    flat_map-map extent_bytes (extent_at b j) (range_with_len 0 n)
    ∙ part-pieces (λ e. extent_bytes (extent_at b j e)) b 8 (record_place j + 48) n 0 (λ e low high. extent-part b j e are (omega arith))
    ∙ ap (λ (p : ℕ). part b p (8 * n)) at

-- the seven parts of a record with n extents
record_parts : (b : List ℕ) (r n : ℕ) → n ≤ 24
    → part b r 256 ≡ part b r 2 ++ part b (r + 2) 2 ++ part b (r + 4) 4 ++ part b (r + 8) 8 ++ part b (r + 16) 32
    ++ part b (r + 48) (8 * n) ++ part b (r + 48 + 8 * n) (8 * (24 - n) + 16)
record_parts b r n few =
    let whole : 256 ≡ (48 + 8 * n) + (8 * (24 - n) + 16) = omega arith in
    let last : r + (48 + 8 * n) ≡ r + 48 + 8 * n = omega arith in
    ap (part b r) whole
    ∙ part-add b r (48 + 8 * n) (8 * (24 - n) + 16)
    ∙ same_append
    (part-add b r 48 (8 * n)
    ∙ same_append
    (part-add b r 16 32
    ∙ same_append (part-add b r 8 8 ∙ same_append (part-add b r 4 4 ∙ same_append (part-add b r 2 2) refl) refl) refl)
    refl)
    (ap (λ (p : ℕ). part b p (8 * (24 - n) + 16)) last)

-- what stands before the name
front_part : (b : List ℕ) (j : ℕ) → AreBytes b → record_place j + 16 ≤ length b → IsUsed b j
    → 1 ∷ perms_at b j ∷ little_bytes 2 (extent_count b j) ++ little_bytes 4 (owner_at b j) ++ little_bytes 8 (size_in_image b j)
    ≡ part b (record_place j) 2 ++ part b (record_place j + 2) 2 ++ part b (record_place j + 4) 4 ++ part b (record_place j + 8) 8
front_part b j are within used =
    let r : ℕ = record_place j in
    let mark : 1 ∷ perms_at b j ∷ [] ≡ part b r 2 =
    ap (λ (m : ℕ). m ∷ perms_at b j ∷ []) (sym used.1)
    ∙ same_append (part-one b r (omega arith)) (part-one b (r + 1) (omega arith)) ∙ sym (part-add b r 1 1) in
    same_append
    (same_append
    (same_append mark (part-number 2 b (r + 2) are (omega arith)))
    (part-number 4 b (r + 4) are (omega arith)))
    (part-number 8 b (r + 8) are (omega arith))

-- the record of a used file
used_part : (b : List ℕ) (j : ℕ) → AreBytes b → record_place j + 256 ≤ length b → IsUsed b j → extent_count b j ≤ 24
    → IsNameField (name_field b j) → Obeys b RecordRest → extents_of (blocks_in_image b j) ≡ extents_at b j
    → file_bytes (file_in_image b j) ≡ part b (record_place j) 256
unfolding file_bytes
used_part b j are within used few name rest extents =
    let r : ℕ = record_place j in
    let n : ℕ = extent_count b j in
    let front : List ℕ → ℕ → List ℕ =
    λ es k. 1 ∷ perms_at b j ∷ little_bytes 2 k ++ little_bytes 4 (owner_at b j) ++ little_bytes 8 (size_in_image b j)
    ++ name_at b j ++ replicate (32 - length (name_at b j)) 0 ++ es ++ replicate (8 * (24 - k) + 16) 0 in
    let count : length (extents_at b j) ≡ n = length-map-range_with_len (extent_at b j) 0 n in
    let zeros : replicate (8 * (24 - n) + 16) 0 ≡ part b (r + 48 + 8 * n) (8 * (24 - n) + 16) =
    part-zeros b (r + 48 + 8 * n) (8 * (24 - n) + 16) (omega arith) (λ k low high. rest j k used (low, omega arith)) in
    ap (λ (es : List Extent). front (flat_map extent_bytes es) (length es)) extents
    ∙ ap (front (flat_map extent_bytes (extents_at b j))) count
    ∙ same_append
    (same_append
    (append_assoc (1 ∷ perms_at b j ∷ little_bytes 2 n ++ little_bytes 4 (owner_at b j) ++ little_bytes 8 (size_in_image b j)) (name_at b j)
    (replicate (32 - length (name_at b j)) 0)
    ∙ same_append (front_part b j are (omega arith) used) (name-field (name_field b j) name))
    (extents-part b j n are (omega arith)))
    zeros
    ∙ sym (record_parts b r n few)

-- the record of any file
record-part : (b : List ℕ) (j : ℕ) → AreBytes b → record_place j + 256 ≤ length b → j < inode_count b
    → Obeys b UsedMark → Obeys b FreeRecord → Obeys b ExtentCount → Obeys b NameForm → Obeys b RecordRest → Obeys b ExtentRange
    → Obeys b ExtentJoins → record_bytes (inode_in_image b j) ≡ part b (record_place j) 256
record-part b j are within there marks free count name rest range joins =
    elim (cases_eq (used_mark b j) 1) [
      | inl used ↦
          ap record_bytes (cond-true (eqb (used_mark b j) 1) (Some (file_in_image b j)) None (eq-eqb (used_mark b j) 1 used))
          ∙ used_part b j are within (there, used) (count j (there, used)) (name j (there, used)) rest
          (extents_of-blocks_in_image b j range joins (there, used))
      | inr unused ↦
          let none : used_mark b j ≡ 0 = omega (arith, marks j there) in
          ap record_bytes (cond-false (eqb (used_mark b j) 1) (Some (file_in_image b j)) None (ne_eqb (used_mark b j) 1 unused))
          ∙ part-zeros b (record_place j) 256 within (λ k low high. free j k there none low high)
    ]

-- all records
pub records-part : (b : List ℕ) → AreBytes b → 8192 + 256 * inode_count b ≤ length b
    → Obeys b UsedMark → Obeys b FreeRecord → Obeys b ExtentCount → Obeys b NameForm → Obeys b RecordRest → Obeys b ExtentRange
    → Obeys b ExtentJoins → flat_map record_bytes (inodes_of b) ≡ part b 8192 (256 * inode_count b)
records-part b are within marks free count name rest range joins =
    flat_map-map record_bytes (inode_in_image b) (range_with_len 0 (inode_count b))
    ∙ part-pieces (λ j. record_bytes (inode_in_image b j)) b 256 8192 (inode_count b) 0
    (λ j low high. record-part b j are (omega arith) (omega arith) marks free count name rest range joins)
