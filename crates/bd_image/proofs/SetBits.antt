-- Setting a bit of a bitmap.
use Rattle.std.proofs.Common.{◌≡◌, ◌≤◌, ◌<◌, ◌+◌, ◌*◌, ◌/◌, ◌%◌, ◌^◌, ℕ, Bool, true, false, eqb, ◌||◌, List, []}
use Rattle.std.proofs.Common.{◌∷◌, ◌++◌, ◌-◌, suc, length, get_or, set, refl, ap, sym, ◌∙◌, inl, inr, arith}
use Rattle.std.proofs.lemmas.Bool.{cases_eq, eq-eqb, ne_eqb}
use Rattle.std.proofs.lemmas.List.{get_or-set_other, get_or-set_same}
use Rattle.std.proofs.lemmas.Nat.Bits.{bit_at_set_other, bit_at_set_same}
use Rattle.std.proofs.lemmas.List.Elements.{All-set}
use Rattle.std.proofs.lemmas.Nat.{or_of_8}
use Rattle.std.specs.Int.{w8}
use Rattle.bd_base.specs.Bytes.{AreBytes}
use Rattle.std.specs.Prelude.{bit_or}
use Rattle.std.proofs.lemmas.List.Folds.{list_any-append}
use Rattle.std.specs.List.{list_any, range_with_len}
use Rattle.bd_base.proofs.Ranges.{range_with_len-suc}
use Rattle.bd_image.specs.Bits.{is_set}

or-true : (b : Bool) → true ≡ (b || true)
or-true true = refl
or-true false = refl

or-false : (b : Bool) → b ≡ (b || false)
or-false true = refl
or-false false = refl

-- bit k of a byte set in it
bit-set : (n k i : ℕ) → k < 8 → eqb (bit_or n (1 * 2 ^ k % 256) / 2 ^ i % 2) 1 ≡ (eqb (n / 2 ^ i % 2) 1 || eqb i k)
bit-set n k i within =
    elim (cases_eq i k) [
      | inl same ↦ rw (same, eq-eqb k k refl, bit_at_set_same w8 n k within) (or-true (eqb (n / 2 ^ k % 2) 1))
      | inr other ↦ rw (ne_eqb i k other, bit_at_set_other w8 n k within i other) (or-false (eqb (n / 2 ^ i % 2) 1))
    ]

-- two blocks of one byte are one where their bits are
one_byte : (x y : ℕ) → y / 8 ≡ x / 8 → eqb (y % 8) (x % 8) ≡ eqb y x
one_byte x y byte =
    elim (cases_eq (y % 8) (x % 8)) [
      | inl same ↦ eq-eqb (y % 8) (x % 8) same ∙ sym (eq-eqb y x (omega arith))
      | inr other ↦ ne_eqb (y % 8) (x % 8) other ∙ sym (ne_eqb y x (λ e. other (ap (λ (n : ℕ). n % 8) e)))
    ]

-- the bitmap with the bit of block x set
pub is_set-mark : (bits : List ℕ) (x y : ℕ) → x / 8 < length bits
    → is_set (set bits (x / 8) (bit_or (get_or bits (x / 8) 0) (1 * 2 ^ (x % 8) % 256))) y ≡ (is_set bits y || eqb y x)
is_set-mark bits x y within =
    let old : ℕ = get_or bits (x / 8) 0 in
    let v : ℕ = bit_or old (1 * 2 ^ (x % 8) % 256) in
    let bit : ℕ → Bool = λ byte. eqb (byte / 2 ^ (y % 8) % 2) 1 in
    elim (cases_eq (y / 8) (x / 8)) [
      | inl byte ↦
          ap (λ (i : ℕ). bit (get_or (set bits (x / 8) v) i 0)) byte
          ∙ ap bit (get_or-set_same bits (x / 8) v 0 within)
          ∙ bit-set old (x % 8) (y % 8) (omega arith)
          ∙ ap (λ (i : ℕ). bit (get_or bits i 0) || eqb (y % 8) (x % 8)) (sym byte)
          ∙ ap (λ (b : Bool). bit (get_or bits (y / 8) 0) || b) (one_byte x y byte)
      | inr other ↦
          ap bit (get_or-set_other bits (x / 8) (y / 8) v 0 other)
          ∙ or-false (bit (get_or bits (y / 8) 0))
          ∙ ap (λ (b : Bool). bit (get_or bits (y / 8) 0) || b) (sym (ne_eqb y x (λ e. other (ap (λ (n : ℕ). n / 8) e))))
    ]

or_assoc : (a b c : Bool) → ((a || b) || c) ≡ (a || (b || c))
or_assoc true b c = refl
or_assoc false b c = refl

-- one block more in a row
pub range-more : (old : Bool) (y s x : ℕ) → s ≤ x
    → ((old || list_any (eqb y) (range_with_len s (x - s))) || eqb y x) ≡ (old || list_any (eqb y) (range_with_len s (x + 1 - s)))
range-more old y s x from =
    let last : s + (x - s) ≡ x = omega arith in
    let next : suc (x - s) ≡ x + 1 - s = omega arith in
    or_assoc old (list_any (eqb y) (range_with_len s (x - s))) (eqb y x)
    ∙ ap (λ (b : Bool). old || b)
    (ap (λ (b : Bool). list_any (eqb y) (range_with_len s (x - s)) || b) (or-false (eqb y x))
    ∙ sym (list_any-append (eqb y) (range_with_len s (x - s)) (x ∷ []))
    ∙ ap (λ (z : ℕ). list_any (eqb y) (range_with_len s (x - s) ++ z ∷ [])) (sym last)
    ∙ ap (list_any (eqb y)) (sym (range_with_len-suc s (x - s)))
    ∙ ap (λ (n : ℕ). list_any (eqb y) (range_with_len s n)) next)

-- a byte with a bit set is a byte
pub AreBytes-mark : (bits : List ℕ) (x : ℕ) → x / 8 < length bits → AreBytes bits
    → AreBytes (set bits (x / 8) (bit_or (get_or bits (x / 8) 0) (1 * 2 ^ (x % 8) % 256)))
AreBytes-mark bits x within are =
    All-set (λ byte. byte < 256) bits (x / 8) (bit_or (get_or bits (x / 8) 0) (1 * 2 ^ (x % 8) % 256))
    (or_of_8 (get_or bits (x / 8) 0) (1 * 2 ^ (x % 8) % 256) (are (x / 8) 0 within) (omega arith)) are
