-- The image of a sound volume consists of bytes.
use Rattle.std.proofs.Common.{◌≡◌, ◌≤◌, ◌<◌, ◌+◌, ◌-◌, ◌*◌, ◌^◌, ℕ, zero, suc, Bool, true, false, cond, List}
use Rattle.std.proofs.Common.{[], ◌∷◌, ◌++◌, Option, Some, None, length, drop, get_or, replicate, refl, ap, ◌∙◌}
use Rattle.std.proofs.Common.{arith}
use Rattle.std.proofs.lemmas.List.Elements.{All-append, All-cons, All-drop, All-from_get_or, All-from_recursion}
use Rattle.std.proofs.lemmas.List.Elements.{All-head, All-map, All-nil, All-replicate, All-same, All-tail}
use Rattle.std.proofs.lemmas.List.Elements.{All-weaker}
use Rattle.std.proofs.lemmas.List.Sums.{sum_by_push}
use Rattle.std.proofs.Math.Nat.{pow-suc}
use Rattle.std.specs.List.{All, flat_map, range_with_len, sum_by}
use Rattle.std.specs.Prelude.{codes}
use Rattle.byteorder.specs.Endian.{little_bytes}
use Rattle.bd_base.specs.declared.volume.Extent.{Extent}
use Rattle.bd_base.specs.declared.volume.Inode.{Inode}
use Rattle.bd_base.specs.declared.volume.Volume.{Volume}
use Rattle.bd_base.specs.Bytes.{AreBytes}
use Rattle.bd_base.specs.Extents.{extents_of}
use Rattle.bd_base.specs.Files.{data_start}
use Rattle.bd_base.specs.Inodes.{AreFiles}
use Rattle.bd_base.specs.Names.{IsName, IsNameByte}
use Rattle.bd_base.specs.Volumes.{IsSoundVolume}
use Rattle.bd_image.specs.Volumes.{bitmap_byte, bitmap_bytes, bitmap_front, extent_bytes, file_bytes, header_bytes, image_of, is_in_use, record_bytes}
use Rattle.bd_base.proofs.Ranges.{range_with_len-suc}
use Rattle.bd_image.proofs.Fields.{padded, record_parts}
use Rattle.bd_image.proofs.Numbers.{AreBytes-little_bytes}

-- a number is a byte
abbrev IsByte : ℕ → Type 0
IsByte byte = byte < 256

-- two lists of bytes, one after the other
both : (xs ys : List ℕ) → AreBytes xs → AreBytes ys → AreBytes (xs ++ ys)
both xs ys one two = All-append IsByte xs ys one two

-- four, five and six lists of bytes, one after the other
four : (a b c d : List ℕ) → AreBytes a → AreBytes b → AreBytes c → AreBytes d → AreBytes (a ++ b ++ c ++ d)
four a b c d ha hb hc hd = both (a ++ b ++ c) d (both (a ++ b) c (both a b ha hb) hc) hd

five : (a b c d e : List ℕ) → AreBytes a → AreBytes b → AreBytes c → AreBytes d → AreBytes e → AreBytes (a ++ b ++ c ++ d ++ e)
five a b c d e ha hb hc hd he = both (a ++ b ++ c ++ d) e (four a b c d ha hb hc hd) he

six : (a b c d e f : List ℕ) → AreBytes a → AreBytes b → AreBytes c → AreBytes d → AreBytes e → AreBytes f
    → AreBytes (a ++ b ++ c ++ d ++ e ++ f)
six a b c d e f ha hb hc hd he hf = both (a ++ b ++ c ++ d ++ e) f (five a b c d e ha hb hc hd he) hf

-- pieces of bytes, one after the other
AreBytes-pieces : {X : Type 0} (f : X → List ℕ) (xs : List X) → All (λ x. AreBytes (f x)) xs → AreBytes (flat_map f xs)
AreBytes-pieces f [] each = All-nil IsByte
AreBytes-pieces f (x ∷ xs) each =
    both (f x) (flat_map f xs) (All-head (λ y. AreBytes (f y)) x xs each) (AreBytes-pieces f xs (All-tail (λ y. AreBytes (f y)) x xs each))

-- zeros are bytes
AreBytes-zeros : (n : ℕ) → AreBytes (replicate n 0)
AreBytes-zeros n = All-replicate IsByte n 0 (omega arith)

-- the header consists of bytes
AreBytes-header : (total inodes : ℕ) → AreBytes (header_bytes total inodes)
unfolding header_bytes
AreBytes-header total inodes =
    let magic : AreBytes (codes "BYPDFS01") = All-from_recursion IsByte (codes "BYPDFS01")
    (omega arith, (omega arith, (omega arith, (omega arith, (omega arith, (omega arith, (omega arith, (omega arith, tt)))))))) in
    five (codes "BYPDFS01") (little_bytes 4 1) (little_bytes 4 total) (little_bytes 4 inodes) (replicate 4076 0)
    magic (AreBytes-little_bytes 4 0 1) (AreBytes-little_bytes 4 0 total) (AreBytes-little_bytes 4 0 inodes) (AreBytes-zeros 4076)

-- bits below place n make up a number below 2 ^ n
bits-below : (t : ℕ → Bool) (n : ℕ) → sum_by (λ k. cond (t k) (2 ^ k) 0) (range_with_len 0 n) < 2 ^ n
bits-below t zero = let e : 0 < 1 = omega arith in e
bits-below t (suc n) =
    let below : sum_by (λ k. cond (t k) (2 ^ k) 0) (range_with_len 0 n) < 2 ^ n = bits-below t n in
    let last : 0 + n ≡ n = omega arith in
    let whole : sum_by (λ k. cond (t k) (2 ^ k) 0) (range_with_len 0 (suc n))
    ≡ sum_by (λ k. cond (t k) (2 ^ k) 0) (range_with_len 0 n) + cond (t n) (2 ^ n) 0 =
    ap (sum_by (λ k. cond (t k) (2 ^ k) 0)) (range_with_len-suc 0 n)
    ∙ sum_by_push (λ k. cond (t k) (2 ^ k) 0) (range_with_len 0 n) (0 + n)
    ∙ ap (λ (k : ℕ). sum_by (λ k. cond (t k) (2 ^ k) 0) (range_with_len 0 n) + cond (t k) (2 ^ k) 0) last in
    omega (arith, whole, below, pow-suc 2 n, bit-at_most (t n) (2 ^ n))
  where
    bit-at_most : (b : Bool) (w : ℕ) → cond b w 0 ≤ w
    bit-at_most true w = omega arith
    bit-at_most false w = omega arith

-- and so does the bitmap
AreBytes-bitmap : (n : ℕ) (inodes : List (Option Inode)) → AreBytes (bitmap_front n inodes)
unfolding bitmap_front bitmap_byte
AreBytes-bitmap n inodes =
    All-map IsByte (λ i. bitmap_byte inodes (8 * i)) (range_with_len 0 n)
    (λ k d low. bits-below (λ x. is_in_use inodes (8 * get_or (range_with_len 0 n) k d + x)) 8)

-- a byte of a name
name-byte : (c : ℕ) → IsNameByte c → c < 256
name-byte c h = omega arith

-- the record of a file consists of bytes
AreBytes-file : (file : Inode) → file.perms < 16 → IsName file.name → AreBytes (file_bytes file)
AreBytes-file file perms name =
    let n : ℕ = length (extents_of file.blocks) in
    let front : AreBytes (1 ∷ file.perms ∷ little_bytes 2 n) =
    All-cons IsByte 1 (file.perms ∷ little_bytes 2 n) (omega arith)
    (All-cons IsByte file.perms (little_bytes 2 n) (omega arith) (AreBytes-little_bytes 2 0 n)) in
    let named : AreBytes (padded file.name) =
    both file.name (replicate (32 - length file.name) 0)
    (All-weaker IsNameByte IsByte name-byte file.name name.bytes)
    (AreBytes-zeros (32 - length file.name)) in
    let extents : AreBytes (flat_map extent_bytes (extents_of file.blocks)) =
    AreBytes-pieces extent_bytes (extents_of file.blocks)
    (λ k d low.
    let e : Extent = get_or (extents_of file.blocks) k d in
    both (little_bytes 4 e.start) (little_bytes 4 e.length) (AreBytes-little_bytes 4 0 e.start) (AreBytes-little_bytes 4 0 e.length)) in
    All-same IsByte (file_bytes file) _ (record_parts file)
    (six (1 ∷ file.perms ∷ little_bytes 2 n) (little_bytes 4 file.owner) (little_bytes 8 file.size) (padded file.name)
    (flat_map extent_bytes (extents_of file.blocks)) (replicate (8 * (24 - n) + 16) 0)
    front (AreBytes-little_bytes 4 0 file.owner) (AreBytes-little_bytes 8 0 file.size) named extents (AreBytes-zeros (8 * (24 - n) + 16)))

-- and so do all records
AreBytes-records : (total : ℕ) (files : List (Option Inode)) → AreFiles total files → AreBytes (flat_map record_bytes files)
AreBytes-records total files are =
    AreBytes-pieces record_bytes files
    (All-from_get_or (λ slot. AreBytes (record_bytes slot)) files None
    (λ id low. each id (get_or files id None) refl))
  where
    each : (id : ℕ) (slot : Option Inode) → get_or files id None ≡ slot → AreBytes (record_bytes slot)
    each id None at = AreBytes-zeros 256
    each id (Some file) at = AreBytes-file file (are.perms id file at) (are.names id file at)

-- the image of a sound volume consists of bytes
pub AreBytes-image : (v : Volume) → IsSoundVolume v → AreBytes (image_of v)
unfolding image_of
AreBytes-image v h =
    four (header_bytes v.total (length v.inodes)) (bitmap_bytes v.inodes) (flat_map record_bytes v.inodes) (drop (4096 * data_start (length v.inodes)) v.bytes)
    (AreBytes-header v.total (length v.inodes)) (AreBytes-bitmap 4096 v.inodes) (AreBytes-records v.total v.inodes h.files)
    (All-drop IsByte (4096 * data_start (length v.inodes)) v.bytes h.are_bytes)
