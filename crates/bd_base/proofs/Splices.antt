-- Lists in which some items were put in the place of others.
use Rattle.std.proofs.Common.{◌≡◌, ℕ, ◌+◌, ◌-◌, ◌<◌, ◌≤◌, List, ◌++◌, length, take, drop, replicate, get_or, All, arith, refl, ap, ◌∙◌, inl, inr}
use Rattle.std.specs.List.{splice}
use Rattle.std.proofs.lemmas.Bool.{cases_lt}
use Rattle.std.proofs.lemmas.List.{get_or-append_right, get_or-drop, get_or-replicate, get_or-take, get_or_append_left, length-append, length-drop, length-replicate, length-take-le, take-append-le, take-take}
use Rattle.std.proofs.lemmas.List.Elements.{All-append, All-drop, All-take}

module _ {X : Type 0} (xs ys : List X) (place : ℕ) (fits : place + length ys ≤ length xs) where
  front : length (take place xs) ≡ place
  front = length-take-le place xs (omega arith)

  pub length-splice : length (splice xs place (place + length ys) ys) ≡ length xs
  length-splice =
      let parts : length (splice xs place (place + length ys) ys) ≡ length (take place xs) + length (ys ++ drop (place + length ys) xs) =
      length-append (take place xs) (ys ++ drop (place + length ys) xs) in
      let back : length (ys ++ drop (place + length ys) xs) ≡ length ys + length (drop (place + length ys) xs) =
      length-append ys (drop (place + length ys) xs) in
      let rest : length (drop (place + length ys) xs) ≡ length xs - (place + length ys) = length-drop (place + length ys) xs in
      omega (arith, front, parts, back, rest)

  -- what stands before
  pub splice-before : (k : ℕ) (d : X) → k < place → get_or (splice xs place (place + length ys) ys) k d ≡ get_or xs k d
  splice-before k d before =
      get_or_append_left (take place xs) (ys ++ drop (place + length ys) xs) d k (omega (arith, front)) ∙ get_or-take place xs k d before

  -- what was put
  pub splice-within : (k : ℕ) (d : X) → place ≤ k → k < place + length ys →
      get_or (splice xs place (place + length ys) ys) k d ≡ get_or ys (k - place) d
  splice-within k d from to =
      get_or-append_right (take place xs) (ys ++ drop (place + length ys) xs) place k d front from
      ∙ get_or_append_left ys (drop (place + length ys) xs) d (k - place) (omega arith)

  -- what stands behind
  pub splice-behind : (k : ℕ) (d : X) → place + length ys ≤ k → get_or (splice xs place (place + length ys) ys) k d ≡ get_or xs k d
  splice-behind k d behind =
      let index : (place + length ys) + (k - place - length ys) ≡ k = omega arith in
      get_or-append_right (take place xs) (ys ++ drop (place + length ys) xs) place k d front (omega arith)
      ∙ get_or-append_right ys (drop (place + length ys) xs) (length ys) (k - place) d refl (omega arith)
      ∙ get_or-drop (place + length ys) xs (k - place - length ys) d
      ∙ ap (λ j. get_or xs j d) index

  -- all of a part before
  pub take-splice : (n : ℕ) → n ≤ place → take n (splice xs place (place + length ys) ys) ≡ take n xs
  take-splice n before =
      take-append-le n (take place xs) (ys ++ drop (place + length ys) xs) (omega (arith, front)) ∙ take-take n place xs before

pub All-splice : {X : Type 0} (P : X → Type 0) (xs ys : List X) (i j : ℕ) → All P xs → All P ys → All P (splice xs i j ys)
All-splice P xs ys i j all new = All-append P (take i xs) (ys ++ drop j xs) (All-take P i xs all) (All-append P ys (drop j xs) new (All-drop P j xs all))

-- where the items that are put are all one, what was that stays it
pub splice-replicate : {X : Type 0} (xs : List X) (place n : ℕ) (x : X) (k : ℕ) → place + n ≤ length xs → get_or xs k x ≡ x →
    get_or (splice xs place (place + length (replicate n x)) (replicate n x)) k x ≡ x
splice-replicate xs place n x k fits was =
    let count : length (replicate n x) ≡ n = length-replicate n x in
    elim (cases_lt k place) [
      | inl before ↦ splice-before xs (replicate n x) place (omega (arith, count)) k x before ∙ was
      | inr from ↦
          elim (cases_lt k (place + n)) [
            | inl to ↦
                splice-within xs (replicate n x) place (omega (arith, count)) k x from (omega (arith, count))
                ∙ get_or-replicate n (k - place) x x (omega arith)
            | inr behind ↦ splice-behind xs (replicate n x) place (omega (arith, count)) k x (omega (arith, count)) ∙ was
          ]
    ]
