-- Lists of blocks and their extents.
use Rattle.std.proofs.Common.{◌≡◌, ℕ, zero, suc, ◌+◌, ◌<◌, ◌≤◌, Bool, true, false, cond, nat_eq, List, [], ◌∷◌}
use Rattle.std.proofs.Common.{◌++◌, length, arith, add-one, ◌-◌, refl, sym, ap, ◌∙◌, inl, inr, subst}
use Rattle.std.specs.List.{range_with_len}
use Rattle.std.proofs.lemmas.Bool.{cond-true, cond-false, cases_eq, eq-eqb, ne_eqb}
use Rattle.std.proofs.lemmas.List.{append-nil, append_assoc}
use Rattle.bd_base.specs.declared.volume.Extent.{Extent}
use Rattle.bd_base.specs.Extents.{blocks_of, with_front_block, extents_of, NoneBeginsAt, AreMaximal}

-- ---- what one more adds

pub blocks_of-push : (es : List Extent) (e : Extent) → blocks_of (es ++ e ∷ []) ≡ blocks_of es ++ range_with_len e.start e.length
blocks_of-push [] e = append-nil (range_with_len e.start e.length)
blocks_of-push (x ∷ es) e =
    ap (λ l. range_with_len x.start x.length ++ l) (blocks_of-push es e)
    ∙ sym (append_assoc (range_with_len x.start x.length) (blocks_of es) (range_with_len e.start e.length))

-- ---- blocks and back

blocks_of-with_front_block : (b : ℕ) (es : List Extent) → blocks_of (with_front_block b es) ≡ b ∷ blocks_of es
blocks_of-with_front_block b [] = refl
blocks_of-with_front_block b (e ∷ es) =
    elim (cases_eq e.start (b + 1)) [
      | inl joins ↦ rw (eq-eqb e.start (b + 1) joins)
          (ap (λ n. range_with_len b n ++ blocks_of es) (add-one e.length) ∙ ap (λ n. b ∷ (range_with_len n e.length ++ blocks_of es)) (sym joins))
      | inr apart ↦ rw (ne_eqb e.start (b + 1) apart) refl
    ]

pub blocks_of-extents_of : (bs : List ℕ) → blocks_of (extents_of bs) ≡ bs
blocks_of-extents_of [] = refl
blocks_of-extents_of (b ∷ bs) = blocks_of-with_front_block b (extents_of bs) ∙ ap (λ l. b ∷ l) (blocks_of-extents_of bs)

AreMaximal-with_front_block : (b : ℕ) (es : List Extent) → AreMaximal es → AreMaximal (with_front_block b es)
AreMaximal-with_front_block b [] maximal = (omega arith, tt, tt)
AreMaximal-with_front_block b (e ∷ es) maximal =
    elim (cases_eq e.start (b + 1)) [
      | inl joins ↦
          let end : b + (e.length + 1) ≡ e.start + e.length = omega arith in
          rw (eq-eqb e.start (b + 1) joins) (omega arith, rw end maximal.1, maximal.2)
      | inr apart ↦ rw (ne_eqb e.start (b + 1) apart) (omega arith, apart, maximal)
    ]

pub AreMaximal-extents_of : (bs : List ℕ) → AreMaximal (extents_of bs)
AreMaximal-extents_of [] = tt
AreMaximal-extents_of (b ∷ bs) = AreMaximal-with_front_block b (extents_of bs) (AreMaximal-extents_of bs)

with_front_block-apart : (b : ℕ) (es : List Extent) → NoneBeginsAt (b + 1) es → with_front_block b es ≡ record { start = b; length = 1 } ∷ es
with_front_block-apart b [] apart = refl
with_front_block-apart b (e ∷ es) apart = rw (ne_eqb e.start (b + 1) apart) refl

-- blocks in a row in front of others that do not begin where the row ends are an extent of their own
extents_of-row : (n start : ℕ) (bs : List ℕ) → NoneBeginsAt (start + suc n) (extents_of bs)
    → extents_of (range_with_len start (suc n) ++ bs) ≡ record { start = start; length = suc n } ∷ extents_of bs
extents_of-row zero start bs apart = with_front_block-apart start (extents_of bs) apart
extents_of-row (suc n) start bs apart =
    let end : start + 1 + suc n ≡ start + suc (suc n) = omega arith in
    let rest : extents_of (range_with_len (start + 1) (suc n) ++ bs)
    ≡ record { start = start + 1; length = suc n } ∷ extents_of bs =
    extents_of-row n (start + 1) bs (rw end apart) in
    let one_more : suc n + 1 ≡ suc (suc n) = omega arith in
    ap (with_front_block start) rest
    ∙ rw (eq-eqb (start + 1) (start + 1) refl) (ap (λ k. record { start = start; length = k } ∷ extents_of bs) one_more)

extents_of-row_of : (n start : ℕ) (bs : List ℕ) → 0 < n → NoneBeginsAt (start + n) (extents_of bs)
    → extents_of (range_with_len start n ++ bs) ≡ record { start = start; length = n } ∷ extents_of bs
extents_of-row_of zero start bs some apart = absurd (omega arith)
extents_of-row_of (suc n) start bs some apart = extents_of-row n start bs apart

pub extents_of-blocks_of : (es : List Extent) → AreMaximal es → extents_of (blocks_of es) ≡ es
extents_of-blocks_of [] maximal = refl
extents_of-blocks_of (e ∷ es) maximal =
    let rest : extents_of (blocks_of es) ≡ es = extents_of-blocks_of es maximal.2 in
    extents_of-row_of e.length e.start (blocks_of es) maximal.0 (rw rest maximal.1)
    ∙ ap (λ l. e ∷ l) rest

-- ---- an extent that is not yet ended, in front of others

-- these extents with one in front, which the first of them continues where it begins at its end
abbrev pub with_front_extent : Extent → List Extent → List Extent
with_front_extent front [] = front ∷ []
with_front_extent front (e ∷ es) =
    cond (nat_eq e.start (front.start + front.length))
    (record { start = front.start; length = front.length + e.length } ∷ es)
    (front ∷ e ∷ es)

-- a block in front is an extent of one block in front
pub extents_of-cons : (b : ℕ) (bs : List ℕ) → extents_of (b ∷ bs) ≡ with_front_extent (record { start = b; length = 1 }) (extents_of bs)
extents_of-cons b bs = front (extents_of bs)
  where
    front : (es : List Extent) → with_front_block b es ≡ with_front_extent (record { start = b; length = 1 }) es
    front [] = refl
    front (e ∷ es) = ap (λ n. cond (nat_eq e.start (b + 1)) (record { start = b; length = n } ∷ es)
        (record { start = b; length = 1 } ∷ e ∷ es)) (omega arith)

with_front_extent-front_next : (front : Extent) (b : ℕ) (es : List Extent) → b ≡ front.start + front.length
    → with_front_extent front (with_front_block b es)
    ≡ with_front_extent (record { start = front.start; length = front.length + 1 }) es
with_front_extent-front_next front b [] next = rw (eq-eqb b (front.start + front.length) next) refl
with_front_extent-front_next front b (e ∷ es) next =
    elim (cases_eq e.start (b + 1)) [
      | inl joins ↦
          let same : e.start ≡ front.start + (front.length + 1) = omega arith in
          let sum : front.length + (e.length + 1) ≡ front.length + 1 + e.length = omega arith in
          rw (eq-eqb e.start (b + 1) joins, eq-eqb b (front.start + front.length) next, eq-eqb e.start (front.start + (front.length + 1)) same)
          (ap (λ n. record { start = front.start; length = n } ∷ es) sum)
      | inr apart ↦
          let other : e.start ≡ front.start + (front.length + 1) → ⊥ = λ same. apart (omega arith) in
          rw (ne_eqb e.start (b + 1) apart, eq-eqb b (front.start + front.length) next, ne_eqb e.start (front.start + (front.length + 1)) other) refl
    ]

with_front_extent-front_other : (front : Extent) (b : ℕ) (es : List Extent)
    → (b ≡ front.start + front.length → ⊥) → with_front_extent front (with_front_block b es)
    ≡ front ∷ with_front_extent (record { start = b; length = 1 }) es
with_front_extent-front_other front b [] other = rw (ne_eqb b (front.start + front.length) other) refl
with_front_extent-front_other front b (e ∷ es) other =
    elim (cases_eq e.start (b + 1)) [
      | inl joins ↦
          let sum : e.length + 1 ≡ 1 + e.length = omega arith in
          rw (eq-eqb e.start (b + 1) joins, ne_eqb b (front.start + front.length) other)
          (ap (λ n. front ∷ record { start = b; length = n } ∷ es) sum)
      | inr apart ↦ rw (ne_eqb e.start (b + 1) apart, ne_eqb b (front.start + front.length) other) refl
    ]

-- a block at its end makes it longer
pub with_front_extent-next : (front : Extent) (b : ℕ) (bs : List ℕ) → b ≡ front.start + front.length
    → with_front_extent front (extents_of (b ∷ bs))
    ≡ with_front_extent (record { start = front.start; length = front.length + 1 }) (extents_of bs)
with_front_extent-next front b bs next = with_front_extent-front_next front b (extents_of bs) next

-- any other block begins an extent
pub with_front_extent-other : (front : Extent) (b : ℕ) (bs : List ℕ) → (b ≡ front.start + front.length → ⊥)
    → with_front_extent front (extents_of (b ∷ bs))
    ≡ front ∷ with_front_extent (record { start = b; length = 1 }) (extents_of bs)
with_front_extent-other front b bs other = with_front_extent-front_other front b (extents_of bs) other
