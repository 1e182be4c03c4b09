-- Sets of names after one more.
use Rattle.std.proofs.Common.{◌≡◌, ◌≢◌, ℕ, ◌+◌, ◌<◌, ◌≤◌, ◌↔◌, ◌⊎◌, Bool, true, false, cond, List, IsTrue, Bor}
use Rattle.std.proofs.Common.{refl, sym, ap, ◌∙◌, subst, inl, inr, arith, Decides}
use Rattle.std.specs.HashSet.{HashSet, Updates, contains}
use Rattle.std.specs.Str.{bytes_eq}
use Rattle.std.proofs.lemmas.Slice.Eq.{bytes_eq-Decides}
use Rattle.std.proofs.lemmas.Bool.{false≢true}
use Rattle.std.proofs.lemmas.Bool.{cases_lt}
use Rattle.bd_image.specs.Layout.{name_field, used_mark}
use Rattle.bd_image.specs.Names.{HasName}

cases : (same old new : Bool) (P : Type 0) → Decides same P → new ≡ cond same true old → IsTrue new ↔ (IsTrue old ⊎ P)
cases true old new P d e = (λ t. inr (d.0 refl), λ w. e)
cases false old new P d e = (λ t. inl (sym e ∙ t), λ w. elim w [ inl t ↦ e ∙ t | inr p ↦ absurd (false≢true (d.1 p)) ])

pub names_after : {S : Type 0} (old new : HashSet (Bor (List ℕ)) S) (key : Bor (List ℕ))
    → Updates (λ x y. bytes_eq x.now y.now) old new key true → (field : List ℕ)
    → HasName new field ↔ (HasName old field ⊎ (field ≡ key.now))
names_after old new key h field =
    let q : Bor (List ℕ) = record { ref_ptr = key.ref_ptr; now = field } in
    let same : Decides (bytes_eq key.now field) (field ≡ key.now) =
    (λ t. sym ((bytes_eq-Decides key.now field).0 t), λ e. (bytes_eq-Decides key.now field).1 (sym e)) in
    cases (bytes_eq key.now field) (contains (λ x y. bytes_eq x.now y.now) old q)
    (contains (λ x y. bytes_eq x.now y.now) new q) (field ≡ key.now) same (h.0 q)

at_end : (i j : ℕ) → i < j + 1 → j ≤ i → i ≡ j
at_end i j l m = omega arith

-- the set has the names of the files among the first j records, and these differ
pub record KnowsBefore {S : Type 0} (b : List ℕ) (seen : HashSet (Bor (List ℕ)) S) (j : ℕ) : Type 0 where
  pub has : (field : List ℕ) → HasName seen field ↔ ((i : ℕ) × (i < j) × (used_mark b i ≡ 1) × (name_field b i ≡ field))
  pub apart : (i k : ℕ) → i < k → k < j → used_mark b i ≡ 1 → used_mark b k ≡ 1 → name_field b i ≢ name_field b k

pub knows_more : {S : Type 0} (b : List ℕ) (seen : HashSet (Bor (List ℕ)) S) (j : ℕ) → KnowsBefore b seen j
    → ¬ (used_mark b j ≡ 1) → KnowsBefore b seen (j + 1)
knows_more b seen j known free = record {
  has = λ field. (
    λ t. let w = (known.has field).0 t in (w.0, omega (arith, w.1), w.2, w.3),
    λ w. (known.has field).1 (
      w.0,
      elim (cases_lt w.0 j)
          [ inl lt ↦ lt | inr ge ↦ absurd (free (subst (λ x. used_mark b x ≡ 1) (at_end w.0 j w.1 ge) w.2)) ],
      w.2,
      w.3,
    ),
  );
  apart = λ i k l m u v. known.apart i k l
      (elim (cases_lt k j) [
        | inl lt ↦ lt
        | inr ge ↦
            absurd (free (subst (λ x. used_mark b x ≡ 1) (at_end k j m ge) v))
      ]) u v;
}

pub knows_added : {S : Type 0} (b : List ℕ) (seen after : HashSet (Bor (List ℕ)) S) (j : ℕ)
    → KnowsBefore b seen j → used_mark b j ≡ 1 → ¬ HasName seen (name_field b j)
    → ((field : List ℕ) → HasName after field ↔ (HasName seen field ⊎ (field ≡ name_field b j)))
    → KnowsBefore b after (j + 1)
knows_added b seen after j known used fresh names = record {
  has = λ field. (
    λ t. elim ((names field).0 t) [ inl t ↦ let w = (known.has field).0 t in (w.0, omega (arith, w.1), w.2, w.3) | inr e ↦ (j, omega arith, used, sym e) ],
    λ w. (names field).1 (elim (cases_lt w.0 j) [
      | inl lt ↦ inl ((known.has field).1 (w.0, lt, w.2, w.3))
      | inr ge ↦ inr
          (sym w.3 ∙ ap (name_field b) (at_end w.0 j w.1 ge))
    ]),
  );
  apart = λ i k l m u v e. elim (cases_lt k j) [
    | inl lt ↦ known.apart i k l lt u v e
    | inr ge ↦ fresh
        ((known.has (name_field b j)).1 (i, omega arith, u, e ∙ ap (name_field b) (at_end k j m ge)))
  ];
}
