-- The second block of an image is the bitmap of its volume.
use Rattle.std.proofs.Common.{◌≡◌, ◌≤◌, ◌<◌, ◌+◌, ◌*◌, ◌/◌, ◌%◌, ◌^◌, inl, inr, ℕ, zero, suc, Bool, false, cond}
use Rattle.std.proofs.Common.{eqb, ltb, ◌||◌, Option, replicate, List, [], ◌∷◌, ◌++◌, length, get_or, ap, sym}
use Rattle.std.proofs.Common.{◌∙◌, arith}
use Rattle.std.proofs.lemmas.Bool.{cases_eq, cases_lt, cond-false, cond-true, eq-eqb, le-ltb, ne_eqb}
use Rattle.std.proofs.lemmas.List.Sums.{sum_by_push}
use Rattle.std.proofs.lemmas.Nat.{mod-pow-add}
use Rattle.std.proofs.lemmas.Bool.Decides.{nat_tests, same_from_decides}
use Rattle.std.proofs.lemmas.List.FromFn.{fill_by_all, get_or-map-range_with_len, length-map-range_with_len}
use Rattle.std.proofs.lemmas.List.{get_or-replicate, get_or_past, length-replicate}
use Rattle.std.proofs.lemmas.List.Folds.{list_any-append}
use Rattle.std.proofs.Math.Nat.{zero-div}
use Rattle.std.specs.List.{list_any, range_with_len, sum_by}
use Rattle.bd_base.specs.declared.volume.Inode.{Inode}
use Rattle.bd_base.proofs.Ranges.{range_with_len-suc}
use Rattle.bd_image.specs.Bits.{is_set}
use Rattle.bd_base.specs.Bytes.{AreBytes}
use Rattle.bd_image.specs.Layout.{is_marked}
use Rattle.bd_image.specs.Rules.{Obeys, Bitmap}
use Rattle.bd_image.specs.Volumes.{bitmap_byte, bitmap_bytes, bitmap_front, is_in_use}
use Rattle.bd_image.proofs.Parts.{part, part-from_bytes}
use Rattle.bd_image.proofs.Taken.{inodes_of, is_in_use-exact}

-- what a bit is worth at its place
bit_worth : (r w : ℕ) (t : Bool) → r < 2 → t ≡ eqb r 1 → cond t w 0 ≡ r * w
bit_worth r w t small is =
    elim (cases_eq r 1) [
      | inl one ↦ cond-true t w 0 (is ∙ eq-eqb r 1 one) ∙ (let e : w ≡ r * w = rw one (omega arith) in e)
      | inr other ↦ cond-false t w 0 (is ∙ ne_eqb r 1 other) ∙ (let none : r ≡ 0 = omega arith in let e : 0 ≡ r * w = rw none (omega arith) in e)
    ]

-- the bits of a number below place n make up the number's lowest n bits
pub bits_sum : (t : ℕ → Bool) (c n : ℕ) → ((k : ℕ) → k < n → t k ≡ eqb (c / 2 ^ k % 2) 1)
    → sum_by (λ k. cond (t k) (2 ^ k) 0) (range_with_len 0 n) ≡ c % 2 ^ n
bits_sum t c zero each = let e : 0 ≡ c % 1 = omega arith in e
bits_sum t c (suc n) each =
    let below : sum_by (λ k. cond (t k) (2 ^ k) 0) (range_with_len 0 n) ≡ c % 2 ^ n =
    bits_sum t c n (λ k h. each k (omega arith)) in
    let here : cond (t n) (2 ^ n) 0 ≡ c / 2 ^ n % 2 * 2 ^ n =
    bit_worth (c / 2 ^ n % 2) (2 ^ n) (t n) (omega arith) (each n (omega arith)) in
    let last : 0 + n ≡ n = omega arith in
    let next : 1 + n ≡ suc n = omega arith in
    ap (sum_by (λ k. cond (t k) (2 ^ k) 0)) (range_with_len-suc 0 n)
    ∙ sum_by_push (λ k. cond (t k) (2 ^ k) 0) (range_with_len 0 n) (0 + n)
    ∙ ap (λ (k : ℕ). sum_by (λ k. cond (t k) (2 ^ k) 0) (range_with_len 0 n) + cond (t k) (2 ^ k) 0) last
    ∙ (let sum : sum_by (λ k. cond (t k) (2 ^ k) 0) (range_with_len 0 n) + cond (t n) (2 ^ n) 0
    ≡ c / 2 ^ n % 2 * 2 ^ n + c % 2 ^ n = omega (arith, below, here) in sum)
    ∙ sym (mod-pow-add c 1 n)
    ∙ ap (λ (k : ℕ). c % 2 ^ k) next

-- a byte of the bitmap says of eight blocks whether they are taken
byte-taken : (b : List ℕ) (i : ℕ) → get_or b (4096 + i) 0 < 256 → Obeys b Bitmap → i < 4096
    → bitmap_byte (inodes_of b) (8 * i) ≡ get_or b (4096 + i) 0
unfolding bitmap_byte
byte-taken b i small rule within =
    let marked : (k : ℕ) → k < 8 → is_in_use (inodes_of b) (8 * i + k) ≡ eqb (get_or b (4096 + i) 0 / 2 ^ k % 2) 1 =
    λ k low.
    let byte : (8 * i + k) / 8 ≡ i = omega arith in
    let bit : (8 * i + k) % 8 ≡ k = omega arith in
    same_from_decides (is_in_use (inodes_of b) (8 * i + k)) (is_marked b (8 * i + k)) (is_in_use-exact b (8 * i + k)) (rule (8 * i + k) (omega arith))
    ∙ ap (λ (n : ℕ). eqb (get_or b (4096 + n) 0 / 2 ^ ((8 * i + k) % 8) % 2) 1) byte
    ∙ ap (λ (n : ℕ). eqb (get_or b (4096 + i) 0 / 2 ^ n % 2) 1) bit in
    bits_sum (λ k. is_in_use (inodes_of b) (8 * i + k)) (get_or b (4096 + i) 0) 8 marked
    ∙ (let whole : get_or b (4096 + i) 0 % 256 ≡ get_or b (4096 + i) 0 = omega arith in whole)

-- the first n bytes of the bitmap
front-part : (b : List ℕ) (n : ℕ) → AreBytes b → 4096 + n ≤ length b → n ≤ 4096 → Obeys b Bitmap
    → bitmap_front n (inodes_of b) ≡ part b 4096 n
unfolding bitmap_front
front-part b n are within few rule =
    part-from_bytes b (bitmap_front n (inodes_of b)) 4096 n within (length-map-range_with_len (λ i. bitmap_byte (inodes_of b) (8 * i)) 0 n)
    (λ k low.
    let at : 0 + k ≡ k = omega arith in
    get_or-map-range_with_len (λ i. bitmap_byte (inodes_of b) (8 * i)) 0 n k k 0 low at
    ∙ byte-taken b k (are (4096 + k) 0 (omega arith)) rule (omega arith))

pub bitmap-part : (b : List ℕ) → AreBytes b → 8192 ≤ length b → Obeys b Bitmap → bitmap_bytes (inodes_of b) ≡ part b 4096 4096
bitmap-part b are long rule = front-part b 4096 are (omega arith) (omega arith) rule

-- a bitmap with a bit set for just the taken blocks
pub bitmap_front-from_bits : (bits : List ℕ) (inodes : List (Option Inode)) (n : ℕ) → length bits ≡ n
    → ((k : ℕ) → k < n → get_or bits k 0 < 256)
    → ((y : ℕ) → is_set bits y ≡ is_in_use inodes y) → bits ≡ bitmap_front n inodes
unfolding bitmap_front bitmap_byte
bitmap_front-from_bits bits inodes n len bytes taken =
    fill_by_all (λ i. bitmap_byte inodes (8 * i)) bits n 0 len
    (λ i low.
    let small : get_or bits i 0 < 256 = bytes i low in
    let each : (k : ℕ) → k < 8 → is_in_use inodes (8 * i + k) ≡ eqb (get_or bits i 0 / 2 ^ k % 2) 1 =
    λ k few.
    let byte : (8 * i + k) / 8 ≡ i = omega arith in
    let bit : (8 * i + k) % 8 ≡ k = omega arith in
    sym (taken (8 * i + k))
    ∙ ap (λ (m : ℕ). eqb (get_or bits m 0 / 2 ^ ((8 * i + k) % 8) % 2) 1) byte
    ∙ ap (λ (m : ℕ). eqb (get_or bits i 0 / 2 ^ m % 2) 1) bit in
    let whole : get_or bits i 0 ≡ get_or bits i 0 % 256 = omega arith in
    whole ∙ sym (bits_sum (λ k. is_in_use inodes (8 * i + k)) (get_or bits i 0) 8 each))

-- no bit is set in zeros
pub is_set-zeros : (n y : ℕ) → is_set (replicate n 0) y ≡ false
is_set-zeros n y =
    let zero' : get_or (replicate n 0) (y / 8) 0 ≡ 0 =
    elim (cases_lt (y / 8) n) [
      | inl low ↦ get_or-replicate n (y / 8) 0 0 low
      | inr past ↦ get_or_past (replicate n 0) (y / 8) 0 (omega (arith, length-replicate {A = ℕ} n 0))
    ] in
    let none : 0 / 2 ^ (y % 8) % 2 ≡ 0 = ap (λ (k : ℕ). k % 2) (zero-div (2 ^ (y % 8))) in
    ap (λ (b : ℕ). eqb (b / 2 ^ (y % 8) % 2) 1) zero' ∙ ap (λ (r : ℕ). eqb r 1) none

-- a block is among the first n where it is below n
pub any-front : (y n : ℕ) → list_any (eqb y) (range_with_len 0 n) ≡ ltb y n
any-front y zero = sym (le-ltb y 0 (omega arith))
any-front y (suc n) =
    let last : 0 + n ≡ n = omega arith in
    ap (list_any (eqb y)) (range_with_len-suc 0 n)
    ∙ list_any-append (eqb y) (range_with_len 0 n) ((0 + n) ∷ [])
    ∙ ap (λ (k : ℕ). list_any (eqb y) (range_with_len 0 n) || (eqb y k || false)) last
    ∙ ap (λ (b : Bool). b || (eqb y n || false)) (any-front y n)
    ∙ grind (arith, nat_tests)
