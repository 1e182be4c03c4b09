-- The first block of an image is the header of its numbers, and its fields are read where it stands.
use Rattle.std.proofs.Common.{◌≡◌, ◌≤◌, ◌+◌, ℕ, List, ◌++◌, length, replicate, refl, ap, sym, ◌∙◌, arith}
use Rattle.std.proofs.lemmas.List.{length-append, length-replicate}
use Rattle.std.specs.Prelude.{codes}
use Rattle.byteorder.specs.Endian.{little_bytes}
use Rattle.bd_base.specs.Bytes.{AreBytes}
use Rattle.bd_image.specs.Layout.{block_count, inode_count}
use Rattle.bd_image.specs.Rules.{Obeys, HeaderRest, Magic, Version}
use Rattle.bd_image.specs.Volumes.{header_bytes}
use Rattle.bd_image.proofs.Parts.{part, part-add, part-number, part-zeros, same_append}
use Rattle.bd_image.proofs.Standing.{Stands, Stands-left, Stands-right}

-- a block of five parts
five_parts : (b : List ℕ) → part b 0 4096 ≡ part b 0 8 ++ part b 8 4 ++ part b 12 4 ++ part b 16 4 ++ part b 20 4076
five_parts b =
    part-add b 0 20 4076
    ∙ same_append (part-add b 0 16 4 ∙ same_append (part-add b 0 12 4 ∙ same_append (part-add b 0 8 4) refl) refl) refl

-- the first block of an image is the header of its numbers
pub header-part : (b : List ℕ) → AreBytes b → 4096 ≤ length b → Obeys b Magic → Obeys b Version → Obeys b HeaderRest
    → header_bytes (block_count b) (inode_count b) ≡ part b 0 4096
unfolding header_bytes
header-part b are long magic one rest =
    same_append
    (same_append
    (same_append
    (same_append (sym magic) (ap (little_bytes 4) (sym one) ∙ part-number 4 b 8 are (omega arith)))
    (part-number 4 b 12 are (omega arith)))
    (part-number 4 b 16 are (omega arith)))
    (part-zeros b 20 4076 (omega arith) (λ k low high. rest k low high))
    ∙ sym (five_parts b)

-- the fields of the first block, read where it stands
pub record HeaderStands (b : List ℕ) (total inodes : ℕ) : Type 0 where
  pub magic : Stands b 0 (codes "BYPDFS01")
  pub version : Stands b 8 (little_bytes 4 1)
  pub blocks : Stands b 12 (little_bytes 4 total)
  pub records : Stands b 16 (little_bytes 4 inodes)
  pub rest : Stands b 20 (replicate 4076 0)

-- five lists, one after the other
five-length : (a o s n z : List ℕ) → length (a ++ o ++ s ++ n ++ z) ≡ length a + length o + length s + length n + length z
five-length a o s n z = omega (arith, length-append a o, length-append (a ++ o) s, length-append (a ++ o ++ s) n, length-append (a ++ o ++ s ++ n) z)

-- each of the five stands where the ones before it end
five-stand : (b a o s n z : List ℕ) → length a ≡ 8 → length o ≡ 4 → length s ≡ 4 → length n ≡ 4 → Stands b 0 (a ++ o ++ s ++ n ++ z)
    → Stands b 0 a × Stands b 8 o × Stands b 12 s × Stands b 16 n × Stands b 20 z
five-stand b a o s n z la lo ls ln h =
    let h₄ : Stands b 0 (a ++ o ++ s ++ n) = Stands-left b 0 (a ++ o ++ s ++ n) z h in
    let h₃ : Stands b 0 (a ++ o ++ s) = Stands-left b 0 (a ++ o ++ s) n h₄ in
    let h₂ : Stands b 0 (a ++ o) = Stands-left b 0 (a ++ o) s h₃ in
    let l₂ : length (a ++ o) ≡ 12 = omega (arith, length-append a o) in
    let l₃ : length (a ++ o ++ s) ≡ 16 = omega (arith, length-append (a ++ o) s) in
    let l₄ : length (a ++ o ++ s ++ n) ≡ 20 = omega (arith, length-append (a ++ o ++ s) n) in (
      Stands-left b 0 a o h₂,
      Stands-right b 0 8 a o la h₂,
      Stands-right b 0 12 (a ++ o) s l₂ h₃,
      Stands-right b 0 16 (a ++ o ++ s) n l₃ h₄,
      Stands-right b 0 20 (a ++ o ++ s ++ n) z l₄ h,
    )

-- where the bytes of a header stand, so do its fields
pub HeaderStands-from_bytes : (b : List ℕ) (total inodes : ℕ) → Stands b 0 (header_bytes total inodes) → HeaderStands b total inodes
unfolding header_bytes
HeaderStands-from_bytes b total inodes h =
    let (magic, version, blocks, records, rest) =
    five-stand b (codes "BYPDFS01") (little_bytes 4 1) (little_bytes 4 total) (little_bytes 4 inodes) (replicate 4076 0) refl refl refl refl h in
    record { magic = magic; version = version; blocks = blocks; records = records; rest = rest }

-- the header takes a block
pub length-header_bytes : (total inodes : ℕ) → length (header_bytes total inodes) ≡ 4096
unfolding header_bytes
length-header_bytes total inodes =
    five-length (codes "BYPDFS01") (little_bytes 4 1) (little_bytes 4 total) (little_bytes 4 inodes) (replicate 4076 0)
    ∙ ap (λ (k : ℕ). 20 + k) (length-replicate {A = ℕ} 4076 0)
