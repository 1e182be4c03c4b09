-- One read or one write after others, and the last one of a call.
use Rattle.std.proofs.Common.{◌≡◌, ℕ, ◌+◌, ◌-◌, ◌<◌, ◌≤◌, List, [], ◌++◌, length, take, drop, Option, None, Some, inl, inr, refl, sym, ap, ◌∙◌, subst, arith, append_assoc, append-nil, length-append, length-take-le}
use Rattle.std.proofs.Math.Seq.{take-add}
use Rattle.std.proofs.lemmas.List.{drop-drop, take_at, take-append-drop, take_rest}
use Rattle.std.specs.Io.KnownBytes.{Appends, Consumes, IsAtEnd}
use Rattle.bd_outside.specs.Faults.{Rose}
use Rattle.bd_outside.specs.Around.{Left, ReadAll, ReadAtMost, ReadPast, Reading}

-- a count that rose late in a call rose in the call
pub Rose-later : (last : Option ℕ) (old mid new : ℕ) → old ≤ mid → Rose last mid new → Rose last old new
Rose-later last old mid new h (inl p) = inl (omega arith)
Rose-later last old mid new h (inr p) = inr p

pub Consumes-nil : (a : Option (List ℕ)) → Consumes a a []
Consumes-nil None = tt
Consumes-nil (Some x) = refl

pub Appends-nil : (a : Option (List ℕ)) → Appends a a []
Appends-nil None = tt
Appends-nil (Some x) = sym (append-nil x)

pub Consumes-trans : (a b c : Option (List ℕ)) (bs cs : List ℕ) → Consumes a b bs → Consumes b c cs → Consumes a c (bs ++ cs)
Consumes-trans None b c bs cs p q = tt
Consumes-trans (Some x) None c bs cs p q = absurd p
Consumes-trans (Some x) (Some y) None bs cs p q = absurd q
Consumes-trans (Some x) (Some y) (Some z) bs cs p q = p ∙ ap (λ l. bs ++ l) q ∙ sym (append_assoc bs cs z)

pub Appends-trans : (a b c : Option (List ℕ)) (bs cs : List ℕ) → Appends a b bs → Appends b c cs → Appends a c (bs ++ cs)
Appends-trans None b c bs cs p q = tt
Appends-trans (Some x) None c bs cs p q = absurd p
Appends-trans (Some x) (Some y) None bs cs p q = absurd q
Appends-trans (Some x) (Some y) (Some z) bs cs p q = q ∙ ap (λ l. l ++ cs) p ∙ append_assoc x bs cs

-- a write of the rest of some bytes took the next n of them
pub Appends-next : (a b c : Option (List ℕ)) (done n : ℕ) (bytes : List ℕ) → Appends a b (take done bytes)
    → Appends b c (take n (take (length bytes - done) (drop done bytes))) → Appends a c (take (done + n) bytes)
Appends-next a b c done n bytes p q =
    let next = subst (λ (l : List ℕ). Appends b c (take n l)) (take_rest bytes done) q in
    subst (Appends a c) (sym (take-add done n bytes)) (Appends-trans a b c _ _ p next)

-- the last read gave nothing, or failed
pub ReadAtMost-same : (r : Reading) (b : Option (List ℕ)) (most : ℕ) (bytes : List ℕ)
    → Consumes r.left b bytes → Consumes b r.remains [] → length bytes ≤ most → ReadAtMost most r
ReadAtMost-same r b most bytes p q h =
    (bytes, subst (Consumes r.left r.remains) (append-nil bytes) (Consumes-trans r.left b r.remains bytes [] p q), h)

-- the last read gave n bytes more
length-more : (n : ℕ) (bytes buffer : List ℕ) → n ≤ length buffer → length (bytes ++ take n buffer) ≡ length bytes + n
length-more n bytes buffer k = omega (arith, length-append bytes (take n buffer), length-take-le n buffer k)

module _ (r : Reading) (b : Option (List ℕ)) (n : ℕ) (bytes buffer : List ℕ) where
  pub ReadAtMost-more : (most : ℕ) → Consumes r.left b bytes → Consumes b r.remains (take n buffer) → n ≤ length buffer
      → length bytes + n ≤ most → ReadAtMost most r
  ReadAtMost-more most p q k h =
      (bytes ++ take n buffer, Consumes-trans r.left b r.remains bytes _ p q, omega (arith, length-more n bytes buffer k, h))

  -- and that was one byte more than there was room for
  pub ReadPast-more : (limit : ℕ) → Consumes r.left b bytes → Consumes b r.remains (take n buffer) → n ≤ length buffer
      → length bytes ≤ limit → limit - length bytes < n → n ≤ limit - length bytes + 1 → ReadPast limit r (bytes ++ take n buffer)
  ReadPast-more limit p q k short more few =
      (Consumes-trans r.left b r.remains bytes _ p q, omega (arith, length-more n bytes buffer k, short, more, few))

-- what was told is read whole where a read met its end
all-at_end : (a b c : Option (List ℕ)) (bytes left : List ℕ) → a ≡ Some left → Consumes a b bytes → IsAtEnd b → Consumes b c []
    → (bytes ≡ left) × (c ≡ Some [])
all-at_end (Some x) (Some y) (Some z) bytes left is p e q =
    let same : x ≡ left = cc in
    (sym (p ∙ ap (λ l. bytes ++ l) e ∙ append-nil bytes) ∙ same, ap (λ (l : List ℕ). Some l) (sym q ∙ e))
all-at_end (Some x) (Some y) None bytes left is p e q = absurd q
all-at_end (Some x) None c bytes left is p e q = absurd p
all-at_end None b c bytes left is p e q = cc

pub ReadAll-at_end : (r : Reading) (b : Option (List ℕ)) (bytes : List ℕ) → Consumes r.left b bytes → IsAtEnd b → Consumes b r.remains []
    → ReadAll r bytes
ReadAll-at_end r b bytes p e q = λ left is. all-at_end r.left b r.remains bytes left is p e q

-- bytes that were taken of what was told are no more than that
pub taken-le : (a c : Option (List ℕ)) (bytes left : List ℕ) → a ≡ Some left → Consumes a c bytes → length bytes ≤ length left
taken-le (Some x) (Some z) bytes left is p =
    let same : x ≡ left = cc in
    omega (arith, ap length same, ap length p, length-append bytes z)
taken-le (Some x) None bytes left is p = absurd p
taken-le None c bytes left is p = cc

-- a source that was read past the limit had not few bytes left, and one that was read whole not many
pub past_is_long : (r : Reading) (limit : ℕ) (bytes : List ℕ) → ReadPast limit r bytes → Left r (λ left. length left ≤ limit) → ⊥
past_is_long r limit bytes past few =
    absurd (omega (arith, taken-le r.left r.remains bytes few.0 few.1 past.0, past.1, few.2))

pub all_is_short : (r : Reading) (limit : ℕ) (bytes : List ℕ) → ReadAll r bytes → length bytes ≤ limit
    → Left r (λ left. limit < length left) → ⊥
all_is_short r limit bytes all short many = absurd (omega (arith, ap length (all many.0 many.1).0, short, many.2))

-- what was copied from the front of a list's rest to the front of a buffer, and what is left
pub taken_front : (bytes buffer copied : List ℕ) (at n : ℕ) → copied ≡ take n (drop at bytes) → length copied ≡ n
    → drop at bytes ≡ take n (copied ++ drop n buffer) ++ drop (at + n) bytes
taken_front bytes buffer copied at n e h =
    sym (take-append-drop n (drop at bytes))
    ∙ ap (λ l. l ++ drop n (drop at bytes)) (sym e ∙ sym (take_at copied (drop n buffer) n h))
    ∙ ap (λ l. take n (copied ++ drop n buffer) ++ l) (drop-drop n at bytes)
