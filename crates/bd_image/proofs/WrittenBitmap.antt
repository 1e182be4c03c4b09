-- The bitmap of the image of a sound volume has a bit set for just the taken blocks.
use Rattle.std.proofs.Common.{◌≡◌, ◌<◌, ◌+◌, ◌-◌, ◌*◌, ◌/◌, ◌%◌, ◌^◌, inl, inr, ℕ, zero, suc, Bool, true, false}
use Rattle.std.proofs.Common.{cond, eqb, ltb, List, Option, None, Some, length, get_or, refl, sym, ap, ◌∙◌}
use Rattle.std.proofs.Common.{subst, arith}
use Rattle.std.proofs.lemmas.Bool.{cases_lt, false≢true, lt-ltb, ltb-true, or_cases, or_left, or_right}
use Rattle.std.proofs.lemmas.List.{get_or_default}
use Rattle.std.proofs.lemmas.List.Folds.{Any-from_list_any, list_any_at}
use Rattle.std.proofs.lemmas.List.FromFn.{get_or-map-range_with_len}
use Rattle.std.proofs.lemmas.List.Sums.{sum_by_push}
use Rattle.std.proofs.lemmas.Nat.Bits.{bit_at_cat_high, bit_at_cat_low}
use Rattle.std.proofs.lemmas.Option.{same_Some}
use Rattle.std.specs.List.{Contains, list_any, range_with_len, sum_by}
use Rattle.bd_base.specs.declared.volume.Inode.{Inode}
use Rattle.bd_base.specs.declared.volume.Volume.{Volume}
use Rattle.bd_base.specs.Files.{data_start}
use Rattle.bd_base.specs.Volumes.{IsSoundVolume}
use Rattle.bd_image.specs.Layout.{IsUsed, blocks_in_image, is_marked}
use Rattle.bd_image.specs.Rules.{Bitmap, IsInUse, Obeys}
use Rattle.bd_image.specs.Volumes.{bitmap_byte, bitmap_front, image_of, is_in_use, owns_block}
use Rattle.bd_base.proofs.Ranges.{range_with_len-suc}
use Rattle.bd_image.proofs.Parts.{get_or-part}
use Rattle.bd_image.proofs.Taken.{Contains-from_any, any-from_Contains}
use Rattle.bd_image.proofs.Written.{written-bitmap, written-inode_count, written-used}
use Rattle.bd_image.proofs.WrittenExtents.{IsWritten, written}

-- ---- the bits of a number that is made of bits

-- the number of these n bits
abbrev number_of : (ℕ → Bool) → ℕ → ℕ
number_of t n = sum_by (λ k. cond (t k) (2 ^ k) 0) (range_with_len 0 n)

-- what a bit is worth at its place
bit_worth : (t : Bool) (w : ℕ) → cond t w 0 ≡ cond t 1 0 * w
bit_worth true w = let e : w ≡ 1 * w = omega arith in e
bit_worth false w = let e : 0 ≡ 0 * w = omega arith in e

-- one bit more
number_of-more : (t : ℕ → Bool) (n : ℕ) → number_of t (suc n) ≡ cond (t n) 1 0 * 2 ^ n + number_of t n
number_of-more t n =
    let f : ℕ → ℕ = λ k. cond (t k) (2 ^ k) 0 in
    let last : 0 + n ≡ n = omega arith in
    let pushed : number_of t (suc n) ≡ number_of t n + f n =
    ap (sum_by f) (range_with_len-suc 0 n) ∙ sum_by_push f (range_with_len 0 n) (0 + n) ∙ ap (λ (k : ℕ). number_of t n + f k) last in
    let worth : f n ≡ cond (t n) 1 0 * 2 ^ n = bit_worth (t n) (2 ^ n) in
    omega arith

-- it has n bits
number_of-small : (t : ℕ → Bool) (n : ℕ) → number_of t n < 2 ^ n
number_of-small t zero = let e : 0 < 1 = omega arith in e
number_of-small t (suc n) = small (t n) (number_of-more t n) (number_of-small t n)
  where
    small : (here : Bool) → number_of t (suc n) ≡ cond here 1 0 * 2 ^ n + number_of t n → number_of t n < 2 ^ n → number_of t (suc n) < 2 ^ suc n
    small true more below = omega arith
    small false more below = omega arith

-- its bits are these
bit-number_of : (t : ℕ → Bool) (n k : ℕ) → k < n → eqb (number_of t n / 2 ^ k % 2) 1 ≡ t k
bit-number_of t zero k low = absurd (omega arith)
bit-number_of t (suc n) k low =
    let a : ℕ = cond (t n) 1 0 in
    let bit : ℕ → Bool = λ m. eqb (m / 2 ^ k % 2) 1 in
    ap bit (number_of-more t n)
    ∙ elim (cases_lt k n) [
      | inl below ↦ ap (λ (r : ℕ). eqb r 1) (bit_at_cat_low a n (number_of t n) k below) ∙ bit-number_of t n k below
      | inr above ↦
          let same : k ≡ n = omega arith in
          let none : k - n ≡ 0 = omega arith in
          ap (λ (r : ℕ). eqb r 1) (bit_at_cat_high a n (number_of t n) k (number_of-small t n) above)
          ∙ ap (λ (i : ℕ). eqb (a / 2 ^ i % 2) 1) none ∙ one (t n) ∙ ap t (sym same)
    ]
  where
    one : (here : Bool) → eqb (cond here 1 0 / 2 ^ 0 % 2) 1 ≡ here
    one true = refl
    one false = refl

-- ---- which bits are set

-- a byte of a bitmap
get_or-bitmap_front : (n : ℕ) (inodes : List (Option Inode)) (i : ℕ) → i < n → get_or (bitmap_front n inodes) i 0 ≡ bitmap_byte inodes (8 * i)
unfolding bitmap_front
get_or-bitmap_front n inodes i low =
    let at : 0 + i ≡ i = omega arith in
    get_or-map-range_with_len (λ k. bitmap_byte inodes (8 * k)) 0 n i i 0 low at

-- a bit of a byte of a bitmap
bit-bitmap_byte : (inodes : List (Option Inode)) (x k : ℕ) → k < 8 → eqb (bitmap_byte inodes x / 2 ^ k % 2) 1 ≡ is_in_use inodes (x + k)
unfolding bitmap_byte
bit-bitmap_byte inodes x k low = bit-number_of (λ i. is_in_use inodes (x + i)) 8 k low

-- the image marks a block where the volume has it as taken
written-marks : (v : Volume) → IsSoundVolume v → (x : ℕ) → x < 32768 → is_marked (image_of v) x ≡ is_in_use v.inodes x
written-marks v sound x low =
    let b : List ℕ = image_of v in
    let bit : ℕ → Bool = λ byte. eqb (byte / 2 ^ (x % 8) % 2) 1 in
    let place : 8 * (x / 8) + x % 8 ≡ x = omega arith in
    let byte : get_or b (4096 + x / 8) 0 ≡ bitmap_byte v.inodes (8 * (x / 8)) =
    sym (get_or-part b 4096 4096 (x / 8) (omega arith))
    ∙ ap (λ (xs : List ℕ). get_or xs (x / 8) 0) (written-bitmap v sound)
    ∙ get_or-bitmap_front 4096 v.inodes (x / 8) (omega arith) in
    ap bit byte ∙ bit-bitmap_byte v.inodes (8 * (x / 8)) (x % 8) (omega arith) ∙ ap (is_in_use v.inodes) place

-- ---- which blocks are taken

-- a file that owns a block
owner : (inodes : List (Option Inode)) (x j : ℕ) (inode : Option Inode) → j < length inodes
    → get_or inodes j inode ≡ inode → owns_block x inode ≡ true
    → (file : Inode) × (get_or inodes j None ≡ Some file) × Contains file.blocks x
owner inodes x j None low at own = absurd (false≢true own)
owner inodes x j (Some file) low at own =
    let d : Option Inode = None in
    (file, get_or_default inodes j d (Some file) low ∙ at, Contains-from_any file.blocks x own)

-- a block that the volume has as taken is one that its image has as taken
taken-from : (v : Volume) → IsSoundVolume v → (x : ℕ) → is_in_use v.inodes x ≡ true → IsInUse (image_of v) x
taken-from v sound x h =
    let b : List ℕ = image_of v in
    elim (or_cases (ltb x (data_start (length v.inodes))) (list_any (owns_block x) v.inodes) h) [
      | inl metadata ↦ inl (subst (λ (n : ℕ). x < data_start n) (sym (written-inode_count v sound)) (ltb-true x (data_start (length v.inodes)) metadata))
      | inr owned ↦
          let (j, o, low, at, own) = Any-from_list_any (owns_block x) v.inodes owned in
          let (file, here, has) = owner v.inodes x j o low at own in
          let used : IsUsed b j = written-used v sound j file here in
          let w : IsWritten v b j = written v sound j used in
          let same : file ≡ w.file = same_Some file w.file (sym here ∙ w.at) in
          let blocks : file.blocks ≡ blocks_in_image b j = ap (λ (f : Inode). f.blocks) same ∙ sym w.blocks in
          inr (j, used, subst (λ (xs : List ℕ). Contains xs x) blocks has)
    ]

-- and the other way round
taken-of : (v : Volume) → IsSoundVolume v → (x : ℕ) → IsInUse (image_of v) x → is_in_use v.inodes x ≡ true
taken-of v sound x (inl metadata) =
    or_left (ltb x (data_start (length v.inodes))) (list_any (owns_block x) v.inodes)
    (lt-ltb x (data_start (length v.inodes)) (subst (λ (n : ℕ). x < data_start n) (written-inode_count v sound) metadata))
taken-of v sound x (inr (j, used, has)) =
    let b : List ℕ = image_of v in
    let w : IsWritten v b j = written v sound j used in
    let d : Option Inode = None in
    let low : j < length v.inodes = omega (arith, used.0, written-inode_count v sound) in
    or_right (ltb x (data_start (length v.inodes))) (list_any (owns_block x) v.inodes)
    (list_any_at (owns_block x) v.inodes j d low
    (ap (owns_block x) w.at ∙ any-from_Contains w.file.blocks x (subst (λ (xs : List ℕ). Contains xs x) w.blocks has)))

-- the bitmap marks just the taken blocks
pub written-obeys-Bitmap : (v : Volume) → IsSoundVolume v → Obeys (image_of v) Bitmap
written-obeys-Bitmap v sound x low =
    let marks : is_marked (image_of v) x ≡ is_in_use v.inodes x = written-marks v sound x low in
    (λ set. taken-from v sound x (sym marks ∙ set), λ taken. marks ∙ taken-of v sound x taken)
