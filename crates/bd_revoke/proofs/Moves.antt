-- How lists of keys change as their stages move on.
use Rattle.std.proofs.Common.{◌≡◌, ℕ, zero, suc, ◌+◌, ◌-◌, ◌<◌, Bool, true, false, cond, List, [], ◌∷◌, ◌++◌, length, get_or, take, drop, refl, ap, sym, ◌∙◌, subst, arith, length-take}
use Rattle.std.specs.Prelude.{Contains, Option, None, Some, IsSome, slice_get, slice_range, nat_lt, position}
use Rattle.std.specs.List.{position_or_len}
use Rattle.std.proofs.lemmas.List.{drop-drop, take_more}
use Rattle.std.proofs.Math.Seq.{drop-append_seam, take-append_seam}
use Rattle.std.proofs.lemmas.List.Sums.{fails_before_first}
use Rattle.std.proofs.lemmas.Slice.{between_is}
use Rattle.std.proofs.lemmas.Bool.{cases_lt, le-ltb, lt-ltb}
use mathlib.Core.Logic.{⊎_elim}
use Rattle.std.proofs.lemmas.Cmp.{eq_by_cmp_equiv}
use Rattle.bd_base.specs.declared.key.Key.{Key}
use Rattle.bd_base.specs.Keys.{same_key, key_cmp_total}

module _ {X : Type 0} where
  -- the part without its first item
  pub slice_range-next : (xs : List X) (from to : ℕ) → slice_range xs (from + 1) to ≡ drop 1 (slice_range xs from to)
  slice_range-next xs from to =
      between_is xs (from + 1) to ∙ sym (drop-drop 1 from (take to xs)) ∙ ap (drop 1) (sym (between_is xs from to))

  -- an item is the first of those from its place on
  pub slice_get-drop : (xs : List X) (i : ℕ) → slice_get xs i ≡ slice_get (drop i xs) 0
  slice_get-drop xs zero = refl
  slice_get-drop [] (suc i) = refl
  slice_get-drop (x ∷ xs) (suc i) = slice_get-drop xs i

  -- what is there only where m is below n
  pub IsSome-below : (m n : ℕ) (item : Option X) → IsSome (cond (nat_lt m n) item None) → m < n
  IsSome-below m n item some =
      ⊎_elim (λ below. below)
      (λ past.
      let IsThere : Bool → Type 0 = λ b. IsSome (cond b item None) in
      let bad : false ≡ true = subst IsThere (le-ltb m n past) some in
      cc)
      (cases_lt m n)

  -- the last of some items in front of the others
  pub drop-rotated : (xs turned : List X) (i : ℕ) (d : X) → i < length xs →
      (let front : List X = take (i + 1) xs in turned ≡ drop (length front - 1) front ++ take (length front - 1) front) →
      drop 1 (turned ++ drop (i + 1) xs) ≡ take i xs ++ drop (i + 1) xs
  drop-rotated xs turned i d within rotated =
      let front : List X = take (i + 1) xs in
      let last : X = get_or xs i d in
      let more : front ≡ take i xs ++ last ∷ [] = take_more xs i d within in
      let count : length (take i xs) ≡ i = omega (arith, length-take i xs, within) in
      let all_but_last : length front - 1 ≡ i = omega (arith, length-take (i + 1) xs, within) in
      let Ends : ℕ → Type 0 = λ n. drop n (take i xs ++ last ∷ []) ≡ last ∷ [] in
      let Begins : ℕ → Type 0 = λ n. take n (take i xs ++ last ∷ []) ≡ take i xs in
      let end : drop i front ≡ last ∷ [] = ap (drop i) more ∙ subst Ends count (drop-append_seam (take i xs) (last ∷ [])) in
      let begin : take i front ≡ take i xs = ap (take i) more ∙ subst Begins count (take-append_seam (take i xs) (last ∷ [])) in
      let is : turned ≡ last ∷ take i xs =
      rotated ∙ ap (λ n. drop n front ++ take n front) all_but_last ∙ (λ k. end k ++ begin k) in
      ap (λ ys. drop 1 (ys ++ drop (i + 1) xs)) is

-- a key that is in a list is found there
pub position_or_len-Contains : (key : Key) (keys : List Key) → Contains keys key → position_or_len (λ other. same_key other key) keys < length keys
position_or_len-Contains key keys (k, within, is) =
    let same : Key → Bool = λ other. same_key other key in
    ⊎_elim (λ found. found)
    (λ past.
    let Differs : Key → Type 0 = λ other. same_key other key ≡ false in
    let other : same_key key key ≡ false =
    subst Differs is (fails_before_first same keys k key (omega (arith, past, within))) in
    let bad : true ≡ false = sym ((eq_by_cmp_equiv key_cmp_total).refl key) ∙ other in
    cc)
    (cases_lt (position_or_len same keys) (length keys))

pub position-Contains : (key : Key) (keys : List Key) → Contains keys key →
    position (λ other. same_key other key) keys ≡ Some (position_or_len (λ other. same_key other key) keys)
position-Contains key keys found =
    let place : ℕ = position_or_len (λ other. same_key other key) keys in
    let answer : Bool → Option ℕ = λ b. cond b (Some place) None in
    ap answer (lt-ltb place (length keys) (position_or_len-Contains key keys found))
