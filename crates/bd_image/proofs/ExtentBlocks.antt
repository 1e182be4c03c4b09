-- Maximal extents by their numbers, and their blocks.
use Rattle.std.proofs.Common.{◌≢◌, ◌≤◌, ◌<◌, ◌+◌, ℕ, zero, suc, List, [], ◌∷◌, length, map, get_or, ◌≡◌, arith}
use Rattle.std.proofs.lemmas.List.Elements.{Contains-append_left, Contains-append_right}
use Rattle.std.specs.List.{Contains, range_with_len}
use Rattle.bd_base.specs.declared.volume.Extent.{Extent}
use Rattle.bd_base.specs.Extents.{AreMaximal, blocks_of}
use Rattle.bd_base.proofs.Ranges.{range-of}

-- extents by their numbers are maximal where none is empty and none begins where the one before it ends
pub AreMaximal-map : (f : ℕ → Extent) (n a : ℕ) → ((e : ℕ) → a ≤ e → e < a + n → 0 < (f e).length)
    → ((e : ℕ) → a ≤ e → e + 1 < a + n → (f (e + 1)).start ≢ (f e).start + (f e).length) → AreMaximal (map f (range_with_len a n))
AreMaximal-map f zero a some apart = tt
AreMaximal-map f (suc zero) a some apart = (some a (omega arith) (omega arith), tt, tt)
AreMaximal-map f (suc (suc n)) a some apart = (
  some a (omega arith) (omega arith),
  apart a (omega arith) (omega arith),
  AreMaximal-map f (suc n) (a + 1) (λ e low high. some e (omega arith) (omega arith)) (λ e low high. apart e (omega arith) (omega arith)),
)

-- none of maximal extents is empty
pub not_empty-at : (es : List Extent) (e : ℕ) (d : Extent) → AreMaximal es → e < length es → 0 < (get_or es e d).length
not_empty-at [] e d maximal low = absurd (omega arith)
not_empty-at (f ∷ es) zero d maximal low = maximal.0
not_empty-at (f ∷ es) (suc e) d maximal low = not_empty-at es e d maximal.2 (omega arith)

-- and none begins where the one before it ends
pub apart-at : (es : List Extent) (e : ℕ) (d : Extent) → AreMaximal es → e + 1 < length es
    → (get_or es (e + 1) d).start ≢ (get_or es e d).start + (get_or es e d).length
apart-at es e d maximal low =
    let next : e + 1 ≡ suc e = omega arith in
    rw next (apart es e maximal (rw next at low))
  where
    apart : (es : List Extent) (e : ℕ) → AreMaximal es → suc e < length es
        → (get_or es (suc e) d).start ≢ (get_or es e d).start + (get_or es e d).length
    apart [] e maximal low = absurd (omega arith)
    apart (f ∷ []) e maximal low = absurd (omega arith)
    apart (f ∷ g ∷ es) zero maximal low = maximal.1
    apart (f ∷ g ∷ es) (suc e) maximal low = apart (g ∷ es) e maximal.2 (omega arith)

-- a block that lies in one of the extents is one of their blocks
pub Contains-blocks_of : (es : List Extent) (e : ℕ) (d : Extent) (x : ℕ) → e < length es → (get_or es e d).start ≤ x
    → x < (get_or es e d).start + (get_or es e d).length → Contains (blocks_of es) x
Contains-blocks_of [] e d x low from below = absurd (omega arith)
Contains-blocks_of (f ∷ es) zero d x low from below =
    Contains-append_left (range_with_len f.start f.length) (blocks_of es) x (range-of f.start f.length x (from, below))
Contains-blocks_of (f ∷ es) (suc e) d x low from below =
    Contains-append_right (range_with_len f.start f.length) (blocks_of es) x (Contains-blocks_of es e d x (omega arith) from below)
