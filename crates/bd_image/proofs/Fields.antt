-- The fields of a file's record, read where the record stands.
use Rattle.std.proofs.Common.{◌≡◌, ◌≤◌, ◌<◌, ◌+◌, ◌-◌, ◌*◌, ◌^◌, ℕ, List, [], ◌∷◌, ◌++◌, length, map, get_or}
use Rattle.std.proofs.Common.{replicate, refl, ap, sym, ◌∙◌, append_assoc, arith}
use Rattle.std.proofs.lemmas.List.{length-append, length-replicate}
use Rattle.std.proofs.lemmas.List.FromFn.{fill_by_all}
use Rattle.std.specs.List.{All, flat_map, range_with_len}
use Rattle.byteorder.specs.Endian.{little_bytes}
use Rattle.bd_base.specs.declared.volume.Extent.{Extent}
use Rattle.bd_base.specs.declared.volume.Inode.{Inode}
use Rattle.bd_base.specs.Extents.{extents_of}
use Rattle.bd_image.specs.Layout.{extent_at, extent_count, extent_place, extents_at, name_field, owner_at, number_at, record_place, size_in_image}
use Rattle.bd_image.specs.Limits.{FitsRecord}
use Rattle.bd_image.specs.Rules.{IsInDataArea}
use Rattle.bd_image.specs.Volumes.{extent_bytes, file_bytes}
use Rattle.bd_image.proofs.Standing.{Stands, Stands-byte, Stands-left, Stands-number, Stands-piece, Stands-right, Stands-same, Stands-take, length-pieces}

-- the name of a file and zeros up to 32 bytes
abbrev pub padded : List ℕ → List ℕ
padded name = name ++ replicate (32 - length name) 0

-- what stands of a file in its record at a place
pub record RecordStands (b : List ℕ) (r : ℕ) (file : Inode) : Type 0 where
  pub front : Stands b r (1 ∷ file.perms ∷ little_bytes 2 (length (extents_of file.blocks)))
  pub owner : Stands b (r + 4) (little_bytes 4 file.owner)
  pub size : Stands b (r + 8) (little_bytes 8 file.size)
  pub name : Stands b (r + 16) (padded file.name)
  pub extents : Stands b (r + 48) (flat_map extent_bytes (extents_of file.blocks))
  pub rest : Stands b (r + 48 + 8 * length (extents_of file.blocks)) (replicate (8 * (24 - length (extents_of file.blocks)) + 16) 0)

-- it takes 32 bytes
pub length-padded : (name : List ℕ) → length name ≤ 32 → length (padded name) ≡ 32
length-padded name few = omega (arith, length-append name (replicate (32 - length name) 0), length-replicate {A = ℕ} (32 - length name) 0)

-- each extent takes eight bytes
pub extents-eight : (es : List Extent) → All (λ e. length (extent_bytes e) ≡ 8) es
extents-eight es k d low = refl

-- the bytes of a record in its six parts
pub record_parts : (file : Inode) → file_bytes file
    ≡ ((((1 ∷ file.perms ∷ little_bytes 2 (length (extents_of file.blocks))) ++ little_bytes 4 file.owner)
    ++ little_bytes 8 file.size) ++ padded file.name)
    ++ flat_map extent_bytes (extents_of file.blocks) ++ replicate (8 * (24 - length (extents_of file.blocks)) + 16) 0
unfolding file_bytes
record_parts file =
    ap (λ (l : List ℕ). l ++ flat_map extent_bytes (extents_of file.blocks) ++ replicate (8 * (24 - length (extents_of file.blocks)) + 16) 0)
    (append_assoc (1 ∷ file.perms ∷ little_bytes 2 (length (extents_of file.blocks)) ++ little_bytes 4 file.owner ++ little_bytes 8 file.size) file.name
    (replicate (32 - length file.name) 0))

-- six lists, one after the other
six-length : (a o s n e z : List ℕ) → length (a ++ o ++ s ++ n ++ e ++ z) ≡ length a + length o + length s + length n + length e + length z
six-length a o s n e z =
    omega (
      arith,
      length-append a o,
      length-append (a ++ o) s,
      length-append (a ++ o ++ s) n,
      length-append
          (a ++ o ++ s ++ n) e,
      length-append (a ++ o ++ s ++ n ++ e) z,
    )

-- each of the six stands where the ones before it end
six-stand : (b : List ℕ) (r : ℕ) (a o s n e z : List ℕ) → length a ≡ 4 → length o ≡ 4 → length s ≡ 8
    → length n ≡ 32 → Stands b r (a ++ o ++ s ++ n ++ e ++ z)
    → Stands b r a × Stands b (r + 4) o × Stands b (r + 8) s × Stands b (r + 16) n × Stands b (r + 48) e × Stands b (r + 48 + length e) z
six-stand b r a o s n e z la lo ls ln h =
    let h₅ : Stands b r (a ++ o ++ s ++ n ++ e) = Stands-left b r (a ++ o ++ s ++ n ++ e) z h in
    let h₄ : Stands b r (a ++ o ++ s ++ n) = Stands-left b r (a ++ o ++ s ++ n) e h₅ in
    let h₃ : Stands b r (a ++ o ++ s) = Stands-left b r (a ++ o ++ s) n h₄ in
    let h₂ : Stands b r (a ++ o) = Stands-left b r (a ++ o) s h₃ in
    let l₂ : length (a ++ o) ≡ 8 = omega (arith, length-append a o) in
    let l₃ : length (a ++ o ++ s) ≡ 16 = omega (arith, length-append (a ++ o) s) in
    let l₄ : length (a ++ o ++ s ++ n) ≡ 48 = omega (arith, length-append (a ++ o ++ s) n) in
    let l₅ : length (a ++ o ++ s ++ n ++ e) ≡ 48 + length e = omega (arith, length-append (a ++ o ++ s ++ n) e) in
    let last : r + (48 + length e) ≡ r + 48 + length e = omega arith in (
      Stands-left b r a o h₂,
      Stands-right b r 4 a o la h₂,
      Stands-right b r 8 (a ++ o) s l₂ h₃,
      Stands-right b r 16 (a ++ o ++ s) n l₃ h₄,
      Stands-right b r 48 (a ++ o ++ s ++ n) e l₄ h₅,
      rw last at (Stands-right b r (48 + length e) (a ++ o ++ s ++ n ++ e) z l₅ h),
    )

-- a record takes 256 bytes
pub length-file_bytes : (file : Inode) → FitsRecord file → length (file_bytes file) ≡ 256
length-file_bytes file fits =
    let n : ℕ = length (extents_of file.blocks) in
    let few : n ≤ 24 = fits.extents in
    let zeros : length {A = ℕ} (replicate (8 * (24 - n) + 16) 0) ≡ 8 * (24 - n) + 16 = length-replicate (8 * (24 - n) + 16) 0 in
    let extents : length (flat_map extent_bytes (extents_of file.blocks)) ≡ 8 * n =
    length-pieces extent_bytes 8 (extents_of file.blocks) (extents-eight (extents_of file.blocks)) in
    ap length (record_parts file)
    ∙ six-length (1 ∷ file.perms ∷ little_bytes 2 n) (little_bytes 4 file.owner) (little_bytes 8 file.size) (padded file.name)
    (flat_map extent_bytes (extents_of file.blocks)) (replicate (8 * (24 - n) + 16) 0)
    ∙ (let e : 16 + length (padded file.name) + length (flat_map extent_bytes (extents_of file.blocks)) + length (replicate (8 * (24 - n) + 16) 0) ≡ 256 =
    omega (arith, zeros, extents, length-padded file.name fits.name) in e)

-- where the bytes of a record stand, so do its parts
pub RecordStands-from_bytes : (b : List ℕ) (r : ℕ) (file : Inode) → FitsRecord file → Stands b r (file_bytes file) → RecordStands b r file
RecordStands-from_bytes b r file fits h =
    let n : ℕ = length (extents_of file.blocks) in
    let extents : length (flat_map extent_bytes (extents_of file.blocks)) ≡ 8 * n =
    length-pieces extent_bytes 8 (extents_of file.blocks) (extents-eight (extents_of file.blocks)) in
    let (front, owner, size, name, es, rest) =
    six-stand b r (1 ∷ file.perms ∷ little_bytes 2 n) (little_bytes 4 file.owner) (little_bytes 8 file.size) (padded file.name)
    (flat_map extent_bytes (extents_of file.blocks)) (replicate (8 * (24 - n) + 16) 0) refl refl refl (length-padded file.name fits.name)
    (Stands-same b r (file_bytes file) _ (record_parts file) h) in
    record { front = front; owner = owner; size = size; name = name; extents = es; rest = rw extents at rest }

-- the byte that marks a used record
pub written-mark : (b : List ℕ) (r : ℕ) (file : Inode) → RecordStands b r file → get_or b r 0 ≡ 1
written-mark b r file h =
    let at : r + 0 ≡ r = omega arith in
    let here = Stands-byte b r 0 (1 ∷ file.perms ∷ little_bytes 2 (length (extents_of file.blocks))) (omega arith) h.front in
    rw at at here

-- the byte of its permissions
pub written-perms : (b : List ℕ) (r : ℕ) (file : Inode) → RecordStands b r file → get_or b (r + 1) 0 ≡ file.perms
written-perms b r file h = Stands-byte b r 1 (1 ∷ file.perms ∷ little_bytes 2 (length (extents_of file.blocks))) (omega arith) h.front

-- the number of its extents
pub written-count : (b : List ℕ) (j : ℕ) (file : Inode) → FitsRecord file → RecordStands b (record_place j) file
    → extent_count b j ≡ length (extents_of file.blocks)
written-count b j file fits h =
    let n : ℕ = length (extents_of file.blocks) in
    let few : n ≤ 24 = fits.extents in
    Stands-number b (record_place j + 2) 2 n (omega arith)
    (Stands-right b (record_place j) 2 (1 ∷ file.perms ∷ []) (little_bytes 2 n) refl h.front)

-- its owner
pub written-owner : (b : List ℕ) (j : ℕ) (file : Inode) → file.owner < 2 ^ 32 → RecordStands b (record_place j) file → owner_at b j ≡ file.owner
written-owner b j file small h = Stands-number b (record_place j + 4) 4 file.owner small h.owner

-- its size
pub written-size : (b : List ℕ) (j : ℕ) (file : Inode) → file.size < 256 ^ 8 → RecordStands b (record_place j) file → size_in_image b j ≡ file.size
written-size b j file small h = Stands-number b (record_place j + 8) 8 file.size small h.size

-- the field of its name
pub written-name : (b : List ℕ) (j : ℕ) (file : Inode) → FitsRecord file → RecordStands b (record_place j) file → name_field b j ≡ padded file.name
written-name b j file fits h = Stands-take b (record_place j + 16) 32 (padded file.name) (length-padded file.name fits.name) h.name

-- an extent whose eight bytes stand
written-extent : (b : List ℕ) (j e : ℕ) (x : Extent) → x.start < 256 ^ 4 → x.length < 256 ^ 4
    → Stands b (extent_place j e) (extent_bytes x) → extent_at b j e ≡ x
written-extent b j e x start len h =
    let p : ℕ = extent_place j e in
    let one : number_at 4 b p ≡ x.start = Stands-number b p 4 x.start start (Stands-left b p (little_bytes 4 x.start) (little_bytes 4 x.length) h) in
    let two : number_at 4 b (p + 4) ≡ x.length =
    Stands-number b (p + 4) 4 x.length len
    (Stands-right b p 4 (little_bytes 4 x.start) (little_bytes 4 x.length) refl h) in
    ap (λ (s : ℕ). let y : Extent = record { start = s; length = number_at 4 b (p + 4) } in y) one
    ∙ ap (λ (l : ℕ). let y : Extent = record { start = x.start; length = l } in y) two

-- the extents that are read are those of the file
pub written-extents : (b : List ℕ) (j n m : ℕ) (file : Inode) → n < 256 ^ 4 → All (IsInDataArea n m) (extents_of file.blocks) → FitsRecord file
    → RecordStands b (record_place j) file → extents_at b j ≡ extents_of file.blocks
written-extents b j n m file small inside fits h =
    let es : List Extent = extents_of file.blocks in
    ap (λ (k : ℕ). map (extent_at b j) (range_with_len 0 k)) (written-count b j file fits h)
    ∙ sym (fill_by_all (extent_at b j) es (length es) (record { start = 0; length = 0 }) refl
    (λ e low.
    let x : Extent = get_or es e (record { start = 0; length = 0 }) in
    let end : x.start + x.length ≤ n = (inside e (record { start = 0; length = 0 }) low).end in
    sym (written-extent b j e x (omega arith) (omega arith)
    (Stands-piece extent_bytes b 8 es (record_place j + 48) e (record { start = 0; length = 0 }) (extents-eight es) low h.extents))))
