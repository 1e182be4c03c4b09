-- Finite maps in which one value is changed, or each.
use Rattle.std.proofs.Common.{◌≡◌, Bool, true, false, cond, Option, None, Some, List, [], ◌∷◌, map, refl, sym, ap, ◌∙◌, subst, inl, inr}
use Rattle.std.specs.Option.{option_map}
use Rattle.std.specs.FinMap as fin
use Rattle.std.specs.FinMap.{IsAntisymmetric, find, get-from_entries, get-insert, get-remove, same_map}
use Rattle.std.specs.Cmp.{IsTotalOrder, tied_itself}
use Rattle.std.specs.Ordering.{eq_by_cmp, is_eq}
use Rattle.std.specs.declared.cmp.Ordering.{Ordering}
use Rattle.std.proofs.lemmas.Bool.{cases_Bool, cond-false, cond-true}
use Rattle.bd_tables.specs.Effects.{change, change_found}
use Rattle.bd_tables.specs.Plain.{map_values}

-- ---- one value

pub other_key : {K : Type 0} {R : K → K → Ordering} {X : Type 0} (o : IsTotalOrder R) (map : fin.FinMap R X) (key : K) (x : X) (q : K) →
    eq_by_cmp R q key ≡ false → fin.get (fin.insert map key x) q ≡ fin.get map q
other_key o map key x q other = get-insert o map key x q ∙ cond-false _ _ _ other

pub same_key-insert : {K : Type 0} {R : K → K → Ordering} {X : Type 0} (o : IsTotalOrder R) (map : fin.FinMap R X) (key : K) (x : X) →
    fin.get (fin.insert map key x) key ≡ Some x
same_key-insert o map key x = get-insert o map key x key ∙ cond-true _ _ _ (ap is_eq (tied_itself o key))

pub other_key-remove : {K : Type 0} {R : K → K → Ordering} {X : Type 0} (o : IsTotalOrder R) (map : fin.FinMap R X) (key q : K) →
    eq_by_cmp R q key ≡ false → fin.get (fin.remove map key) q ≡ fin.get map q
other_key-remove o map key q other = get-remove o map key q ∙ cond-false _ _ _ other

pub same_key-remove : {K : Type 0} {R : K → K → Ordering} {X : Type 0} (o : IsTotalOrder R) (map : fin.FinMap R X) (key : K) →
    fin.get (fin.remove map key) key ≡ None
same_key-remove o map key = get-remove o map key key ∙ cond-true _ _ _ (ap is_eq (tied_itself o key))

-- what a key has after a change of the value of one key, told by cases
pub get-change : {K : Type 0} {R : K → K → Ordering} {X : Type 0} (o : IsTotalOrder R) (map : fin.FinMap R X) (key : K) (f : X → X) (q : K)
    (P : Option X → Type 0) → (eq_by_cmp R q key ≡ false → P (fin.get map q)) →
    ((x : X) → fin.get map key ≡ Some x → eq_by_cmp R q key ≡ true → P (Some (f x))) →
    (fin.get map key ≡ None → P (fin.get map q)) → P (fin.get (change map key f) q)
get-change {R = R} o map key f q P other own none = go (fin.get map key) refl
  where
    go : (v : Option _) → fin.get map key ≡ v → P (fin.get (change_found map key f v) q)
    go None is = none is
    go (Some x) is = elim (cases_Bool (eq_by_cmp R q key)) [
      | inl same ↦ subst P (sym (get-insert o map key (f x) q ∙ cond-true _ _ _ same)) (own x is same)
      | inr differs ↦ subst P (sym (other_key o map key (f x) q differs)) (other differs)
    ]

pub other_key-change : {K : Type 0} {R : K → K → Ordering} {X : Type 0} (o : IsTotalOrder R) (map : fin.FinMap R X) (key : K) (f : X → X) (q : K) →
    eq_by_cmp R q key ≡ false → fin.get (change map key f) q ≡ fin.get map q
other_key-change {R = R} o map key f q other = go (fin.get map key)
  where
    go : (v : Option _) → fin.get (change_found map key f v) q ≡ fin.get map q
    go None = refl
    go (Some x) = other_key o map key (f x) q other

pub same_key-change : {K : Type 0} {R : K → K → Ordering} {X : Type 0} (o : IsTotalOrder R) (map : fin.FinMap R X) (key : K) (f : X → X) →
    fin.get (change map key f) key ≡ option_map f (fin.get map key)
same_key-change {R = R} o map key f = go (fin.get map key) refl
  where
    go : (v : Option _) → fin.get map key ≡ v → fin.get (change_found map key f v) key ≡ option_map f v
    go None is = is
    go (Some x) is = same_key-insert o map key (f x)

pub change-none : {K : Type 0} {R : K → K → Ordering} {X : Type 0} (map : fin.FinMap R X) (key : K) (f : X → X) →
    fin.get map key ≡ None → change map key f ≡ map
change-none map key f none = ap (change_found map key f) none

pub change-some : {K : Type 0} {R : K → K → Ordering} {X : Type 0} (map : fin.FinMap R X) (key : K) (f : X → X) (x : X) →
    fin.get map key ≡ Some x → change map key f ≡ fin.insert map key (f x)
change-some map key f x is = ap (change_found map key f) is

-- ---- each value

option_map-cond : {X Y : Type 0} (f : X → Y) (b : Bool) (x : Option X) (v : Option X) →
    option_map f (cond b x v) ≡ cond b (option_map f x) (option_map f v)
option_map-cond f true x v = refl
option_map-cond f false x v = refl

find-map : {K X Y : Type 0} (R : K → K → Ordering) (f : X → Y) (q : K) (es : List (K × X)) →
    find R q (map (λ e. (e.0, f e.1)) es) ≡ option_map f (find R q es)
find-map R f q [] = refl
find-map R f q (e ∷ es) =
    ap (cond (eq_by_cmp R q e.0) (Some (f e.1))) (find-map R f q es) ∙ sym (option_map-cond f (eq_by_cmp R q e.0) (Some e.1) (find R q es))

pub get-map_values : {K X Y : Type 0} {R : K → K → Ordering} (o : IsTotalOrder R) (f : X → Y) (m : fin.FinMap R X) (q : K) →
    fin.get (map_values f m) q ≡ option_map f (fin.get m q)
unfolding map_values
get-map_values {R = R} o f m q =
    get-from_entries o (map (λ e. (e.0, f e.1)) (fin.entries m)) q ∙ find-map R f q (fin.entries m) ∙ ap (option_map f) (sym (fin.get-entries m q))

module _ {K X Y : Type 0} {R : K → K → Ordering} (o : IsTotalOrder R) (same : IsAntisymmetric R) (f : X → Y) where
  pub map_values-empty : map_values f (fin.empty {R = R}) ≡ fin.empty
  map_values-empty = same_map o same _ _ (λ q.
      get-map_values o f fin.empty q ∙ ap (option_map f) (fin.get-empty R q) ∙ sym (fin.get-empty R q))

  pub map_values-insert : (m : fin.FinMap R X) (key : K) (x : X) → map_values f (fin.insert m key x) ≡ fin.insert (map_values f m) key (f x)
  map_values-insert m key x = same_map o same _ _ (λ q.
      get-map_values o f (fin.insert m key x) q ∙ ap (option_map f) (get-insert o m key x q)
      ∙ option_map-cond f (eq_by_cmp R q key) (Some x) (fin.get m q)
      ∙ ap (cond (eq_by_cmp R q key) (Some (f x))) (sym (get-map_values o f m q)) ∙ sym (get-insert o (map_values f m) key (f x) q))

  pub map_values-remove : (m : fin.FinMap R X) (key : K) → map_values f (fin.remove m key) ≡ fin.remove (map_values f m) key
  map_values-remove m key = same_map o same _ _ (λ q.
      get-map_values o f (fin.remove m key) q ∙ ap (option_map f) (get-remove o m key q)
      ∙ option_map-cond f (eq_by_cmp R q key) None (fin.get m q)
      ∙ ap (cond (eq_by_cmp R q key) None) (sym (get-map_values o f m q)) ∙ sym (get-remove o (map_values f m) key q))

  pub map_values-change : (m : fin.FinMap R X) (key : K) (g : X → X) (h : Y → Y) → ((x : X) → f (g x) ≡ h (f x)) →
      map_values f (change m key g) ≡ change (map_values f m) key h
  map_values-change m key g h both = go (fin.get m key) ∙ ap (change_found (map_values f m) key h) (sym (get-map_values o f m key))
    where
      go : (v : Option X) → map_values f (change_found m key g v) ≡ change_found (map_values f m) key h (option_map f v)
      go None = refl
      go (Some x) = map_values-insert m key (g x) ∙ ap (fin.insert (map_values f m) key) (both x)
