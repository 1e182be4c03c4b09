-- What is gathered are the bytes of the first parts, up to the first short one.
use Rattle.std.proofs.Common.{◌≡◌, ℕ, zero, suc, ◌-◌, take, List, [], ◌∷◌, ◌++◌, length, All}
use Rattle.std.proofs.Common.{inl, inr, refl, sym, ap, subst, arith}
use Rattle.std.proofs.lemmas.Bool.{cases_lt, cond-true, cond-false, lt-ltb, le-ltb}
use Rattle.std.proofs.lemmas.List.{append-nil}
use Rattle.std.proofs.lemmas.List.Elements.{All-cons, All-nil}
use Rattle.bd_pieces.specs.declared.gathering.PieceBytes.{PieceBytes}
use Rattle.bd_pieces.specs.Gathered.{AreFirstBytes, IsLastShort, IsShort, gathered_bytes}

abbrev bytes_of : PieceBytes → List ℕ
bytes_of part = part.bytes

-- the first part is whole: it stands in front of those of the rest
module _ (part : PieceBytes) (parts : List PieceBytes) (is_whole : ¬ IsShort part) (rest : AreFirstBytes parts (gathered_bytes parts)) where
  whole_before : (count : ℕ) → All (λ p. ¬ IsShort p) (take (count - 1) parts) → All (λ p. ¬ IsShort p) (take (suc count - 1) (part ∷ parts))
  whole_before zero whole = All-nil (λ p. ¬ IsShort p)
  whole_before (suc count) whole =
      let before : suc count - 1 ≡ count = omega arith in
      let here : suc (suc count) - 1 ≡ suc count = omega arith in
      rw here (All-cons (λ p. ¬ IsShort p) part (take count parts) is_whole (rw before at whole))

  short_after : (count : ℕ) → IsLastShort parts count → IsLastShort (part ∷ parts) (suc count)
  short_after zero last = absurd (omega (arith, last.some))
  short_after (suc count) last =
      let before : suc count - 1 ≡ count = omega arith in
      let here : suc (suc count) - 1 ≡ suc count = omega arith in
      record { last = last.last; some = omega arith; stands = rw here (rw before at last.stands); short = last.short }

  with_whole : AreFirstBytes (part ∷ parts) (part.bytes ++ gathered_bytes parts)
  with_whole = record {
    count = suc rest.count;
    within = omega (arith, rest.within);
    bytes_of = ap (λ l. part.bytes ++ l) rest.bytes_of;
    whole = whole_before rest.count rest.whole;
    ends = elim rest.ends [ inl all ↦ inl (ap suc all) | inr last ↦ inr (short_after rest.count last) ];
  }

-- the first part is short: nothing after it is taken
with_short : (part : PieceBytes) (parts : List PieceBytes) → IsShort part → AreFirstBytes (part ∷ parts) part.bytes
with_short part parts short = record {
  count = 1;
  within = omega arith;
  bytes_of = sym (append-nil part.bytes);
  whole = All-nil (λ p. ¬ IsShort p);
  ends = inr (record { last = part; some = omega arith; stands = refl; short = short });
}

pub first_bytes : (parts : List PieceBytes) → AreFirstBytes parts (gathered_bytes parts)
first_bytes [] = record { count = 0; within = omega arith; bytes_of = refl; whole = All-nil (λ p. ¬ IsShort p); ends = inl refl }
first_bytes (part ∷ parts) =
    elim (cases_lt (length part.bytes) (part.range.hi - part.range.lo)) [
      | inl short ↦
          subst (AreFirstBytes (part ∷ parts)) (sym (cond-true _ part.bytes (part.bytes ++ gathered_bytes parts) (lt-ltb _ _ short)))
          (with_short part parts short)
      | inr long ↦
          subst (AreFirstBytes (part ∷ parts)) (sym (cond-false _ part.bytes (part.bytes ++ gathered_bytes parts) (le-ltb _ _ long)))
          (with_whole part parts (λ short. omega arith) (first_bytes parts))
    ]
