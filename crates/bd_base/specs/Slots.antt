-- Finite maps that are kept as lists of slots by number.
use Rattle.std.specs.Prelude.{◌≡◌, ℕ, zero, suc, ◌+◌, ◌<◌, Bool, true, false, cond, Option, None, Some, List, [], ◌∷◌, length, refl}
use Rattle.std.proofs.Common.{arith, ap, sym, ◌∙◌, subst, set, get_or, replicate, inl, inr, add-zero, zero-add}
use Rattle.std.specs.declared.cmp.Ordering.{Ordering}
use Rattle.std.specs.declared.cmp.Ordering.TheVariants.{Less, Equal, Greater}
use Rattle.std.specs.Ordering.{is_eq, eq_by_cmp}
use Rattle.std.specs.Cmp.{IsTotalOrder, tied_itself}
use Rattle.std.specs.FinMap as map
use Rattle.std.specs.FinMap.{IsAntisymmetric, FinMap, find, same_map, get-insert, get-remove, get-from_entries}
use Rattle.std.proofs.lemmas.Bool.{cases_Bool, cond-true, cond-false, true≢false, false≢true}
use Rattle.std.proofs.lemmas.List.{set-get_or}
use Rattle.std.proofs.lemmas.Option.{none-some}

-- the filled slots with their keys, where the slots are numbered from n on
abbrev pub filled : {K X : Type 0} → (ℕ → K) → ℕ → List (Option X) → List (K × X)
filled key_at n [] = []
filled key_at n (None ∷ slots) = filled key_at (n + 1) slots
filled key_at n (Some x ∷ slots) = (key_at n, x) ∷ filled key_at (n + 1) slots

-- each key with what its slot holds
unfoldable pub slots_map : {K X : Type 0} (R : K → K → Ordering) → (ℕ → K) → List (Option X) → FinMap R X
slots_map R key_at slots = map.from_entries (filled key_at 0 slots)

-- ---- what a change of a slot does to the map

is_Equal : (r : Ordering) → is_eq r ≡ true → r ≡ Equal
is_Equal Less e = absurd (false≢true e)
is_Equal Equal e = refl
is_Equal Greater e = absurd (false≢true e)

swapped : {A : Type 0} (a b : Bool) (x y z : A) → (a ≡ true → b ≡ false)
    → cond a x (cond b y z) ≡ cond b y (cond a x z)
swapped true true x y z apart = absurd (true≢false (apart refl))
swapped true false x y z apart = refl
swapped false b x y z apart = refl

-- the value of a key is that of the slot whose key it is
pub record IsSlot {K X : Type 0} (key_at : ℕ → K) (slots : List (Option X)) (q : K) (x : X) : Type 0 where
  pub number : ℕ
  pub within : number < length slots
  pub key : q ≡ key_at number
  pub value : get_or slots number None ≡ Some x

module _ {K : Type 0} (R : K → K → Ordering) (key_at : ℕ → K) (o : IsTotalOrder R)
    (apart : (m n : ℕ) → eq_by_cmp R (key_at m) (key_at n) ≡ true → m ≡ n) where
  other_key : (q : K) (i n : ℕ) → eq_by_cmp R q (key_at i) ≡ true → i < n → eq_by_cmp R q (key_at n) ≡ false
  other_key q i n here below =
      elim (cases_Bool (eq_by_cmp R q (key_at n))) [
        | inl also ↦
            let tied : R (key_at i) (key_at n) ≡ Equal = sym (o.congr q (key_at i) (key_at n) (is_Equal _ here))
            ∙ is_Equal _ also in
            let same : i ≡ n = apart i n (ap is_eq tied) in
            absurd (omega arith)
        | inr other ↦ other
      ]

  module _ {X : Type 0} where
    find-filled_later : (q : K) (i n : ℕ) (slots : List (Option X)) → eq_by_cmp R q (key_at i) ≡ true
        → i < n →
        find R q (filled key_at n slots) ≡ None
    find-filled_later q i n [] here below = refl
    find-filled_later q i n (None ∷ slots) here below = find-filled_later q i (n + 1) slots here (omega arith)
    find-filled_later q i n (Some x ∷ slots) here below =
        cond-false _ _ _ (other_key q i n here below) ∙ find-filled_later q i (n + 1) slots here (omega arith)

    find-filled_past : (q : K) (n : ℕ) (s : Option X) (slots : List (Option X))
        → eq_by_cmp R q (key_at n) ≡ false →
        find R q (filled key_at n (s ∷ slots)) ≡ find R q (filled key_at (n + 1) slots)
    find-filled_past q n None slots other = refl
    find-filled_past q n (Some x) slots other = cond-false _ _ _ other

    find-filled_at : (q : K) (n : ℕ) (s v : Option X) (slots : List (Option X)) (b : Bool) →
        eq_by_cmp R q (key_at n) ≡ b →
        find R q (filled key_at n (v ∷ slots)) ≡ cond b v (find R q (filled key_at n (s ∷ slots)))
    find-filled_at q n s None slots true here = find-filled_later q n (n + 1) slots here (omega arith)
    find-filled_at q n s (Some x) slots true here = cond-true _ _ _ here
    find-filled_at q n s v slots false other = find-filled_past q n v slots other
        ∙ sym (find-filled_past q n s slots other)

    find-filled_set : (q : K) (n : ℕ) (slots : List (Option X)) (i : ℕ) (v : Option X) → i < length slots →
        find R q (filled key_at n (set slots i v)) ≡ cond (eq_by_cmp R q (key_at (n + i))) v
        (find R q (filled key_at n slots))
    find-filled_set q n [] i v within = absurd (omega arith)
    find-filled_set q n (s ∷ slots) zero v within =
        let here : n + 0 ≡ n = add-zero n in
        find-filled_at q n s v slots _ (ap (λ k. eq_by_cmp R q (key_at k)) (sym here))
    find-filled_set q n (None ∷ slots) (suc i) v within =
        let place : n + 1 + i ≡ n + suc i = omega arith in
        find-filled_set q (n + 1) slots i v (omega arith)
        ∙ ap (λ k. cond (eq_by_cmp R q (key_at k)) v (find R q (filled key_at (n + 1) slots))) place
    find-filled_set q n (Some x ∷ slots) (suc i) v within =
        let place : n + 1 + i ≡ n + suc i = omega arith in
        let rest = find-filled_set q (n + 1) slots i v (omega arith)
        ∙ ap (λ k. cond (eq_by_cmp R q (key_at k)) v (find R q (filled key_at (n + 1) slots))) place in
        ap (cond (eq_by_cmp R q (key_at n)) (Some x)) rest
        ∙ swapped _ _ _ _ _ (λ here. other_key q n (n + suc i) here (omega arith))

    pub get-slots_map-set : (slots : List (Option X)) (i : ℕ) (v : Option X) (q : K) → i < length slots →
        map.get (slots_map R key_at (set slots i v)) q ≡ cond (eq_by_cmp R q (key_at i)) v
        (map.get (slots_map R key_at slots) q)
    unfolding slots_map
    get-slots_map-set slots i v q within =
        get-from_entries o (filled key_at 0 (set slots i v)) q ∙ find-filled_set q 0 slots i v within
        ∙ ap (λ n. cond (eq_by_cmp R q (key_at n)) v (find R q (filled key_at 0 slots))) (zero-add i)
        ∙ ap (cond (eq_by_cmp R q (key_at i)) v) (sym (get-from_entries o (filled key_at 0 slots) q))

    pub get-slots_map : (slots : List (Option X)) (i : ℕ) → i < length slots →
        map.get (slots_map R key_at slots) (key_at i) ≡ get_or slots i None
    get-slots_map slots i within =
        ap (λ s. map.get (slots_map R key_at s) (key_at i)) (sym (set-get_or slots i None))
        ∙ get-slots_map-set slots i (get_or slots i None) (key_at i) within
        ∙ cond-true _ _ _ (ap is_eq (tied_itself o (key_at i)))

    module _ (same : IsAntisymmetric R) where
      pub slots_map-fill : (slots : List (Option X)) (i : ℕ) (x : X) → i < length slots →
          slots_map R key_at (set slots i (Some x)) ≡ map.insert (slots_map R key_at slots) (key_at i) x
      slots_map-fill slots i x within =
          same_map o same _ _ (λ q. get-slots_map-set slots i (Some x) q within
          ∙ sym (get-insert o _ (key_at i) x q))

      pub slots_map-clear : (slots : List (Option X)) (i : ℕ) → i < length slots →
          slots_map R key_at (set slots i None) ≡ map.remove (slots_map R key_at slots) (key_at i)
      slots_map-clear slots i within =
          same_map o same _ _ (λ q. get-slots_map-set slots i None q within ∙ sym (get-remove o _ (key_at i) q))

      found_in : (q : K) (n : ℕ) (slots : List (Option X)) (x : X) → find R q (filled key_at n slots) ≡ Some x →
          IsSlot (λ i. key_at (n + i)) slots q x
      found_in q n [] x found = absurd (none-some x found)
      found_in q n (None ∷ slots) x found =
          let rest = found_in q (n + 1) slots x found in
          let place : n + 1 + rest.number ≡ n + suc rest.number = omega arith in
          record {
            number = suc rest.number;
            within = omega (arith, rest.within);
            key = rest.key
                ∙ ap key_at place;
            value = rest.value;
          }
      found_in q n (Some y ∷ slots) x found =
          elim (cases_Bool (eq_by_cmp R q (key_at n))) [
            | inl here ↦
                let place : n ≡ n + 0 = omega arith in
                record {
                  number = 0;
                  within = omega arith;
                  key = same q (key_at n) (is_Equal _ here) ∙ ap key_at place;
                  value = sym (cond-true _ _ _ here) ∙ found;
                }
            | inr other ↦
                let rest = found_in q (n + 1) slots x (sym (cond-false _ _ _ other) ∙ found) in
                let place : n + 1 + rest.number ≡ n + suc rest.number = omega arith in
                record {
                  number = suc rest.number;
                  within = omega (arith, rest.within);
                  key = rest.key
                      ∙ ap key_at place;
                  value = rest.value;
                }
          ]

      pub slot_of-get : (slots : List (Option X)) (q : K) (x : X)
          → map.get (slots_map R key_at slots) q ≡ Some x →
          IsSlot key_at slots q x
      unfolding slots_map
      slot_of-get slots q x found =
          subst (λ (at : ℕ → K). IsSlot at slots q x) (λ j i. key_at (zero-add i j))
          (found_in q 0 slots x (sym (get-from_entries o _ q) ∙ found))

-- no slot is filled
filled-none : {K X : Type 0} (key_at : ℕ → K) (n count : ℕ)
    → filled {X = X} key_at n (replicate count None) ≡ []
filled-none key_at n zero = refl
filled-none key_at n (suc count) = filled-none key_at (n + 1) count

pub slots_map-none : {K X : Type 0} (R : K → K → Ordering) (key_at : ℕ → K) (count : ℕ) →
    slots_map {X = X} R key_at (replicate count None) ≡ map.empty
unfolding slots_map
slots_map-none R key_at count = ap map.from_entries (filled-none key_at 0 count)
