-- Where the header, the bitmap, the records and the data stand in the image of a volume whose files are those of an image.
use Rattle.std.proofs.Common.{◌≡◌, ◌<◌, ◌+◌, ◌-◌, ◌*◌, inl, inr, ℕ, List, ◌++◌, Option, Some, None, length}
use Rattle.std.proofs.Common.{drop, get_or, refl, ap, sym, ◌∙◌, subst, arith}
use Rattle.std.proofs.lemmas.Bool.{cases_lt}
use Rattle.std.proofs.lemmas.List.{drop_at, get_or_past, length-append, length-drop, length-replicate}
use Rattle.std.proofs.lemmas.List.Elements.{All-weaker}
use Rattle.std.proofs.lemmas.List.FromFn.{length-map-range_with_len}
use Rattle.std.proofs.lemmas.Option.{none-some}
use Rattle.std.specs.List.{All, flat_map}
use Rattle.std.specs.Option.{IfSome}
use Rattle.bd_base.specs.declared.volume.Inode.{Inode}
use Rattle.bd_base.specs.declared.volume.Volume.{Volume}
use Rattle.bd_base.specs.Files.{data_start}
use Rattle.bd_base.specs.Inodes.{AreFiles}
use Rattle.bd_image.specs.Layout.{record_place}
use Rattle.bd_image.specs.Limits.{FitsRecord}
use Rattle.bd_image.specs.Volumes.{bitmap_bytes, bitmap_byte, bitmap_front, header_bytes, image_of, record_bytes}
use Rattle.bd_image.proofs.Fields.{RecordStands, RecordStands-from_bytes, length-file_bytes}
use Rattle.bd_image.proofs.Header.{HeaderStands, HeaderStands-from_bytes, length-header_bytes}
use Rattle.bd_image.proofs.Limits.{AreFiles-fit}
use Rattle.bd_image.proofs.Standing.{Stands, Stands-left, Stands-right, Stands-piece, length-pieces}
use Rattle.bd_image.proofs.Whole.{data_place}

-- the parts of an image stand in a row
pub record ImageStands (v : Volume) : Type 0 where
  pub header : HeaderStands (image_of v) v.total (length v.inodes)
  pub bitmap : Stands (image_of v) 4096 (bitmap_bytes v.inodes)
  pub records : Stands (image_of v) 8192 (flat_map record_bytes v.inodes)
  pub behind : drop (8192 + 256 * length v.inodes) (image_of v) ≡ drop (8192 + 256 * length v.inodes) v.bytes
  pub whole : length (image_of v) ≡ 8192 + 256 * length v.inodes + (length v.bytes - (8192 + 256 * length v.inodes))

-- an id with a file is one of the volume's
pub file-there : (files : List (Option Inode)) (j : ℕ) (file : Inode) → get_or files j None ≡ Some file → j < length files
file-there files j file at =
    elim (cases_lt j (length files)) [
      | inl low ↦ low
      | inr past ↦ absurd (none-some file (sym (get_or_past files j None past) ∙ at))
    ]

-- each file has room in its record
pub fits-file : (total : ℕ) (files : List (Option Inode)) (j : ℕ) (file : Inode) → AreFiles total files
    → get_or files j None ≡ Some file → FitsRecord file
fits-file total files j file are at =
    subst (λ (slot : Option Inode). IfSome slot FitsRecord) at (AreFiles-fit total files are j None (file-there files j file at))

-- the record of a slot takes 256 bytes
record_bytes-long : (slot : Option Inode) → IfSome slot FitsRecord → length (record_bytes slot) ≡ 256
record_bytes-long None fits = length-replicate {A = ℕ} 256 0
record_bytes-long (Some file) fits = length-file_bytes file fits

-- the record of each slot takes 256 bytes
records-long : (total : ℕ) (files : List (Option Inode)) → AreFiles total files → All (λ slot. length (record_bytes slot) ≡ 256) files
records-long total files are =
    All-weaker (λ slot. IfSome slot FitsRecord) (λ slot. length (record_bytes slot) ≡ 256) record_bytes-long files (AreFiles-fit total files are)

-- the first n bytes of a bitmap are n
pub length-bitmap : (n : ℕ) (inodes : List (Option Inode)) → length (bitmap_front n inodes) ≡ n
unfolding bitmap_front
length-bitmap n inodes = length-map-range_with_len (λ i. bitmap_byte inodes (8 * i)) 0 n

-- four lists in a row
four-stand : (h i r d : List ℕ) → length h ≡ 4096 → length i ≡ 4096
    → Stands (h ++ i ++ r ++ d) 0 h × Stands (h ++ i ++ r ++ d) 4096 i × Stands (h ++ i ++ r ++ d) 8192 r
    × (drop (8192 + length r) (h ++ i ++ r ++ d) ≡ d)
four-stand h i r d lh li =
    let b : List ℕ = h ++ i ++ r ++ d in
    let all : Stands b 0 (h ++ i ++ r) = record { rest = d; is = refl } in
    let two : Stands b 0 (h ++ i) = Stands-left b 0 (h ++ i) r all in
    let l₂ : length (h ++ i) ≡ 8192 = omega (arith, length-append h i) in
    let l₃ : length (h ++ i ++ r) ≡ 8192 + length r = omega (arith, length-append (h ++ i) r) in (
      Stands-left b 0 h i two,
      Stands-right b 0 4096 h i lh two,
      Stands-right b 0 8192 (h ++ i) r l₂ all,
      drop_at (h ++ i ++ r) d (8192 + length r) l₃,
    )

-- how long they are together
four-length : (h i r d : List ℕ) → length (h ++ i ++ r ++ d) ≡ length h + length i + length r + length d
four-length h i r d = omega (arith, length-append h i, length-append (h ++ i) r, length-append (h ++ i ++ r) d)

-- the header, the bitmap, the records and the data of an image stand in a row
pub ImageStands-from_files : (v : Volume) → AreFiles v.total v.inodes → ImageStands v
unfolding image_of
ImageStands-from_files v are =
    let m : ℕ = length v.inodes in
    let h : List ℕ = header_bytes v.total m in
    let i : List ℕ = bitmap_bytes v.inodes in
    let r : List ℕ = flat_map record_bytes v.inodes in
    let d : List ℕ = drop (4096 * data_start m) v.bytes in
    let lr : length r ≡ 256 * m = length-pieces record_bytes 256 v.inodes (records-long v.total v.inodes are) in
    let lh : length h ≡ 4096 = length-header_bytes v.total m in
    let li : length i ≡ 4096 = length-bitmap 4096 v.inodes in
    let start : 4096 * data_start m ≡ 8192 + 256 * m = data_place m are.whole_blocks in
    let parts = four-stand h i r d lh li in
    record {
      header = HeaderStands-from_bytes (image_of v) v.total m parts.0;
      bitmap = parts.1;
      records = parts.2;
      behind = ap (λ (k : ℕ). drop (8192 + k) (image_of v)) (sym lr) ∙ parts.3 ∙ ap (λ (k : ℕ). drop k v.bytes) start;
      whole = four-length h i r d ∙ omega (arith, lr, lh, li, start, length-drop (4096 * data_start m) v.bytes);
    }

-- the record of a slot stands at its place
pub record-stands : (v : Volume) (j : ℕ) → AreFiles v.total v.inodes → j < length v.inodes
    → Stands (image_of v) (record_place j) (record_bytes (get_or v.inodes j None))
record-stands v j are low =
    Stands-piece record_bytes (image_of v) 256 v.inodes 8192 j None (records-long v.total v.inodes are) low (ImageStands-from_files v are).records

-- a file that the volume has stands in its record
pub file-stands : (v : Volume) (j : ℕ) (file : Inode) → AreFiles v.total v.inodes
    → get_or v.inodes j None ≡ Some file → RecordStands (image_of v) (record_place j) file
file-stands v j file are at =
    RecordStands-from_bytes (image_of v) (record_place j) file (fits-file v.total v.inodes j file are at)
    (subst (λ slot. Stands (image_of v) (record_place j) (record_bytes slot)) at (record-stands v j are (file-there v.inodes j file at)))
