-- Options that a call answers, the last item of a list, and tests of its items.
use Rattle.std.proofs.Common.{◌≡◌, ℕ, suc, ◌-◌, Bool, List, [], ◌∷◌, ◌++◌, length, take, slice_get, Option, None, Some}
use Rattle.std.proofs.Common.{arith, refl, sym, ap, ◌∙◌}
use Rattle.std.specs.List.{list_any}
use Rattle.std.specs.Option.{SomeIff}
use Rattle.std.proofs.lemmas.List.{length_push}
use Rattle.std.proofs.lemmas.Option.{none-some, same_Some}
use Rattle.bd_base.specs.Allocation.{last_block}

-- a wrapped number is that number where it is in range
pub wrapped : (r : Option ℕ) (P : Type 0) (n : ℕ) → SomeIff r P n → P → r ≡ Some n
wrapped None P n not_in_range in_range = absurd (not_in_range in_range)
wrapped (Some m) P n is in_range = ap Some is.1

-- ---- the last block of a list

pub last_block-cons : (a c : ℕ) (cs : List ℕ) → last_block (a ∷ c ∷ cs) ≡ last_block (c ∷ cs)
last_block-cons a c cs =
    let all : suc (suc (length cs)) - 1 ≡ suc (length cs) = omega arith in
    let rest : suc (length cs) - 1 ≡ length cs = omega arith in
    ap (slice_get (a ∷ c ∷ cs)) all ∙ sym (ap (slice_get (c ∷ cs)) rest)

-- a list with a last block is what stands before it and that block
pub last_block-split : (bs : List ℕ) (b : ℕ) → last_block bs ≡ Some b → bs ≡ take (length bs - 1) bs ++ b ∷ []
last_block-split [] b last = absurd (none-some b last)
last_block-split (a ∷ []) b last = ap (λ x. x ∷ []) (same_Some a b last)
last_block-split (a ∷ c ∷ cs) b last =
    let rest : c ∷ cs ≡ take (suc (length cs) - 1) (c ∷ cs) ++ b ∷ [] =
    last_block-split (c ∷ cs) b (sym (last_block-cons a c cs) ∙ last) in
    let all : suc (suc (length cs)) - 1 ≡ suc (suc (length cs) - 1) = omega arith in
    ap (λ l. a ∷ l) rest ∙ sym (ap (λ n. take n (a ∷ c ∷ cs) ++ b ∷ []) all)

pub last_block-push : (bs : List ℕ) (b : ℕ) → last_block (bs ++ b ∷ []) ≡ Some b
last_block-push bs b = ap (slice_get (bs ++ b ∷ [])) last ∙ at bs
  where
    last : length (bs ++ b ∷ []) - 1 ≡ length bs
    last = omega (arith, length_push bs b)

    at : (cs : List ℕ) → slice_get (cs ++ b ∷ []) (length cs) ≡ Some b
    at [] = refl
    at (c ∷ cs) = at cs

-- ---- tests of items

-- tests that agree on each item find alike
pub list_any-same : {X : Type 0} (p q : X → Bool) → ((x : X) → p x ≡ q x) → (xs : List X) → list_any p xs ≡ list_any q xs
list_any-same p q same [] = refl
list_any-same p q same (x ∷ xs) = rw (same x) (rw (list_any-same p q same xs) refl)
