-- Searches for the least process and descriptor that pass a test.
use Rattle.std.proofs.Common.{◌≡◌, ℕ, ◌+◌, Bool, true, false, ◌||◌, cond, List, [], ◌∷◌, Option, None, Some, refl, ap, ◌∙◌}
use Rattle.std.specs.Prelude.{is_some, position}
use Rattle.std.specs.Option.{option_map, option_or}
use Rattle.std.specs.List.{list_any, position_from}
use Rattle.std.proofs.lemmas.Iterator.Adapters.{position_from-zero}
use Rattle.bd_entry.specs.Store.{Descriptor, first_holder}

is_some-position_from : {X : Type 0} (test : X → Bool) (n : ℕ) (xs : List X) → is_some (position_from test n xs) ≡ list_any test xs
is_some-position_from test n [] = refl
is_some-position_from test n (x ∷ xs) =
    elim (test x) as (λ b. is_some (cond b (Some n) (position_from test (n + 1) xs)) ≡ (b || list_any test xs)) [
      | true ↦ refl
      | false ↦ is_some-position_from test (n + 1) xs
    ]

-- a search finds something where some element passes
pub is_some-position : {X : Type 0} (test : X → Bool) (xs : List X) → is_some (position test xs) ≡ list_any test xs
is_some-position test xs = ap is_some (position_from-zero test xs) ∙ is_some-position_from test 0 xs

is_some-option_or : {X Y : Type 0} (f : X → Y) (o : Option X) (later : Option Y) →
    is_some (option_or (option_map f o) later) ≡ (is_some o || is_some later)
is_some-option_or f None later = refl
is_some-option_or f (Some x) later = refl

-- a holder is found where some slot passes
pub is_some-first_holder : (test : Option Descriptor → Bool) (process : ℕ) (rows : List (List (Option Descriptor))) →
    is_some (first_holder test process rows) ≡ list_any (list_any test) rows
is_some-first_holder test process [] = refl
is_some-first_holder test process (slots ∷ rows) =
    is_some-option_or (λ (fd : ℕ). record { process = process; fd = fd }) (position test slots) (first_holder test (process + 1) rows)
    ∙ ap (λ (b : Bool). b || is_some (first_holder test (process + 1) rows)) (is_some-position test slots)
    ∙ ap (λ (b : Bool). list_any test slots || b) (is_some-first_holder test (process + 1) rows)
