-- Facts that hold or do not.
use Rattle.std.proofs.Common.{◌≡◌, ◌≢◌, ℕ, zero, suc, ◌<◌, ◌≤◌, Bool, true, false, List, [], ◌∷◌, Option, None, Some, ◌⊎◌, inl, inr, refl, sym, ap, ◌∙◌, subst, arith, ⊎_elim}
use Rattle.std.specs.Prelude.{IfSome, IsSome}
use Rattle.std.proofs.lemmas.Bool.{cases_eq, cases_lt}
use Rattle.std.proofs.lemmas.Option.{none-some, same_Some}

-- the fact holds, or it does not
abbrev pub Decided : Type 0 → Type 0
Decided P = P ⊎ (¬ P)

pub decided-yes : Decided (Unit {0})
decided-yes = inl tt

pub decided-no : Decided ⊥
decided-no = inr (λ no. no)

-- a fact that holds just where another does
pub decided-as : {P Q : Type 0} → (P → Q) → (Q → P) → Decided P → Decided Q
decided-as to from decided = ⊎_elim (λ holds. inl (to holds)) (λ fails. inr (λ holds. fails (from holds))) decided

pub decided-not : {P : Type 0} → Decided P → Decided (¬ P)
decided-not decided = ⊎_elim (λ holds. inr (λ fails. fails holds)) (λ fails. inl fails) decided

pub decided-and : {P Q : Type 0} → Decided P → Decided Q → Decided (P × Q)
decided-and first second =
    ⊎_elim
    (λ p. ⊎_elim (λ q. inl (p, q)) (λ fails. inr (λ both. fails both.1)) second)
    (λ fails. inr (λ both. fails both.0))
    first

pub decided-or : {P Q : Type 0} → Decided P → Decided Q → Decided (P ⊎ Q)
decided-or first second =
    ⊎_elim
    (λ p. inl (inl p))
    (λ not_first.
    ⊎_elim (λ q. inl (inr q)) (λ not_second. inr (λ some. ⊎_elim (λ p. not_first p) (λ q. not_second q) some)) second)
    first

pub decided-if : {P Q : Type 0} → Decided P → Decided Q → Decided (P → Q)
decided-if first second =
    ⊎_elim
    (λ p. ⊎_elim (λ q. inl (λ given. q)) (λ fails. inr (λ implies. fails (implies p))) second)
    (λ fails. inl (λ p. absurd (fails p)))
    first

-- ---- equalities

pub decided-nat : (a b : ℕ) → Decided (a ≡ b)
decided-nat a b = cases_eq a b

pub decided-lt : (a b : ℕ) → Decided (a < b)
decided-lt a b = ⊎_elim (λ below. inl below) (λ above. inr (λ below. omega arith)) (cases_lt a b)

pub decided-le : (a b : ℕ) → Decided (a ≤ b)
decided-le a b = ⊎_elim (λ below. inr (λ above. omega arith)) (λ above. inl above) (cases_lt b a)

pub decided-bool : (a b : Bool) → Decided (a ≡ b)
decided-bool true true = inl refl
decided-bool true false = inr (λ same. let no : true ≡ false = same in cc)
decided-bool false true = inr (λ same. let no : false ≡ true = same in cc)
decided-bool false false = inl refl

pub decided-nil : {X : Type 0} (xs : List X) → Decided (xs ≡ [])
decided-nil [] = inl refl
decided-nil (x ∷ xs) = inr (λ same. let no : x ∷ xs ≡ [] = same in cc)

pub decided-list : {X : Type 0} → ((a b : X) → Decided (a ≡ b)) → (xs ys : List X) → Decided (xs ≡ ys)
decided-list each [] [] = inl refl
decided-list each [] (y ∷ ys) = inr (λ same. let no : [] ≡ y ∷ ys = same in cc)
decided-list each (x ∷ xs) [] = inr (λ same. let no : x ∷ xs ≡ [] = same in cc)
decided-list each (x ∷ xs) (y ∷ ys) =
    ⊎_elim
    (λ head.
    ⊎_elim
    (λ tail. inl (ap (λ z. z ∷ xs) head ∙ ap (λ zs. y ∷ zs) tail))
    (λ differ. inr (λ same. differ (let all : x ∷ xs ≡ y ∷ ys = same in cc)))
    (decided-list each xs ys))
    (λ differ. inr (λ same. differ (let all : x ∷ xs ≡ y ∷ ys = same in cc)))
    (each x y)

pub decided-nats : (xs ys : List ℕ) → Decided (xs ≡ ys)
decided-nats xs ys = decided-list decided-nat xs ys

pub decided-none : {X : Type 0} (o : Option X) → Decided (o ≡ None)
decided-none None = inl refl
decided-none (Some x) = inr (λ same. none-some x (sym same))

pub decided-option : {X : Type 0} → ((a b : X) → Decided (a ≡ b)) → (o p : Option X) → Decided (o ≡ p)
decided-option each o None = decided-none o
decided-option each None (Some y) = inr (λ same. none-some y same)
decided-option each (Some x) (Some y) =
    ⊎_elim (λ same. inl (ap Some same)) (λ differ. inr (λ same. differ (same_Some x y same))) (each x y)

pub decided-number : (o p : Option ℕ) → Decided (o ≡ p)
decided-number o p = decided-option decided-nat o p

-- values that some lists of numbers give back
pub decided-coded : {X : Type 0} (code : X → List ℕ) (back : List ℕ → X) → ((x : X) → back (code x) ≡ x) → (a b : X) → Decided (a ≡ b)
decided-coded code back returns a b =
    ⊎_elim
    (λ same. inl (sym (returns a) ∙ ap back same ∙ returns b))
    (λ differ. inr (λ same. differ (ap code same)))
    (decided-nats (code a) (code b))

-- ---- facts of what an option holds

pub decided-if_some : {X : Type 0} (P : X → Type 0) → ((x : X) → Decided (P x)) → (o : Option X) → Decided (IfSome o P)
decided-if_some P each None = inl tt
decided-if_some P each (Some x) = each x

-- it holds something, of which the fact holds
pub decided-the : {X : Type 0} (P : X → Type 0) → ((x : X) → Decided (P x)) → (o : Option X) → Decided ((x : X) × (o ≡ Some x) × P x)
decided-the P each None = inr (λ the. none-some the.0 the.1)
decided-the P each (Some x) =
    ⊎_elim
    (λ holds. inl (x, refl, holds))
    (λ fails. inr (λ the. fails (subst P (sym (same_Some x the.0 the.1)) the.2)))
    (each x)

-- ---- facts of all numbers below one

pub decided-below : (P : ℕ → Type 0) → ((k : ℕ) → Decided (P k)) → (n : ℕ) → Decided ((k : ℕ) → k < n → P k)
decided-below P each zero = inl (λ k below. absurd (omega arith))
decided-below P each (suc n) =
    ⊎_elim
    (λ all.
    ⊎_elim
    (λ last.
    inl (λ k below.
    ⊎_elim (λ same. subst P (sym same) last) (λ differ. all k (omega arith)) (cases_eq k n)))
    (λ fails. inr (λ every. fails (every n (omega arith))))
    (each n))
    (λ fails. inr (λ every. fails (λ k below. every k (omega arith))))
    (decided-below P each n)
