-- The same byte in a row.
use Rattle.std.proofs.Common.{◌≡◌, ℕ, zero, suc, ◌≤◌, ◌<◌, List, length, take, replicate, slice_index_or, refl}
use Rattle.std.specs.List.{All}
use Rattle.std.proofs.lemmas.List.{length-replicate, take-replicate}
use Rattle.std.proofs.lemmas.List.Elements.{All-replicate}
use Rattle.bd_base.specs.Bytes.{AreBytes}
use Rattle.bd_gen.specs.Bytes.{repeated}

pub repeated-is : (count byte : ℕ) → repeated count byte ≡ replicate count byte
unfolding repeated
repeated-is count byte = refl

pub length-repeated : (count byte : ℕ) → length (repeated count byte) ≡ count
unfolding repeated
length-repeated count byte = length-replicate count byte

pub take-repeated : (n count byte : ℕ) → n ≤ count → take n (repeated count byte) ≡ replicate n byte
unfolding repeated
take-repeated n count byte within = take-replicate n count byte within

pub AreBytes-repeated : (count byte : ℕ) → byte < 256 → AreBytes (repeated count byte)
unfolding repeated
AreBytes-repeated count byte small = All-replicate (λ b. b < 256) count byte small

index-zeros : (count i : ℕ) → ◌≡◌ {A = ℕ} (slice_index_or (replicate count 0) i 0) 0
index-zeros zero i = refl
index-zeros (suc n) zero = refl
index-zeros (suc n) (suc i) = index-zeros n i

-- each of so many zeros is zero, and past them stands none
pub index-repeated_zero : (count i : ℕ) → ◌≡◌ {A = ℕ} (slice_index_or (repeated count 0) i 0) 0
unfolding repeated
index-repeated_zero count i = index-zeros count i
