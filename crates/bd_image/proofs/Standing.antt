-- Lists that stand at a place of an image: how they split, and how bytes, numbers and pieces of one length are read from them.
use Rattle.std.proofs.Common.{◌≡◌, ◌≤◌, ◌<◌, ◌+◌, ◌*◌, ◌^◌, ◌-◌, ℕ, zero, suc, List, [], ◌∷◌, ◌++◌, length}
use Rattle.std.proofs.Common.{take, drop, get_or, replicate, ap, sym, ◌∙◌, append_assoc, arith}
use Rattle.std.proofs.lemmas.List.{drop_at, drop-drop, get_or_append_left, get_or-drop, get_or-replicate, length-append, length-replicate, take_at}
use Rattle.std.proofs.lemmas.List.Elements.{All-head, All-tail}
use Rattle.std.specs.List.{All, flat_map}
use Rattle.byteorder.specs.Endian.{little_bytes, little_number}
use Rattle.bd_image.specs.Layout.{number_at}
use Rattle.bd_image.proofs.Numbers.{little_number-little_bytes}

-- the list stands in the bytes at the place
pub record Stands (b : List ℕ) (p : ℕ) (xs : List ℕ) : Type 0 where
  pub rest : List ℕ
  pub is : drop p b ≡ xs ++ rest

-- what stands in front of a list stands there itself
pub Stands-left : (b : List ℕ) (p : ℕ) (xs ys : List ℕ) → Stands b p (xs ++ ys) → Stands b p xs
Stands-left b p xs ys h = record { rest = ys ++ h.rest; is = h.is ∙ append_assoc xs ys h.rest }

-- what stands behind a list of n bytes stands n bytes on
pub Stands-right : (b : List ℕ) (p n : ℕ) (xs ys : List ℕ) → length xs ≡ n → Stands b p (xs ++ ys) → Stands b (p + n) ys
Stands-right b p n xs ys len h =
    record { rest = h.rest; is = sym (drop-drop n p b) ∙ ap (drop n) (h.is ∙ append_assoc xs ys h.rest) ∙ drop_at xs (ys ++ h.rest) n len }

-- a list equal to one that stands stands there too
pub Stands-same : (b : List ℕ) (p : ℕ) (xs ys : List ℕ) → xs ≡ ys → Stands b p xs → Stands b p ys
Stands-same b p xs ys same h = record { rest = h.rest; is = h.is ∙ ap (λ (l : List ℕ). l ++ h.rest) same }

-- the n bytes from the place on are the list
pub Stands-take : (b : List ℕ) (p n : ℕ) (xs : List ℕ) → length xs ≡ n → Stands b p xs → take n (drop p b) ≡ xs
Stands-take b p n xs len h = ap (take n) h.is ∙ take_at xs h.rest n len

-- each byte of a list that stands
pub Stands-byte : (b : List ℕ) (p k : ℕ) (xs : List ℕ) → k < length xs → Stands b p xs → get_or b (p + k) 0 ≡ get_or xs k 0
Stands-byte b p k xs low h = sym (get_or-drop p b k 0) ∙ ap (λ (l : List ℕ). get_or l k 0) h.is ∙ get_or_append_left xs h.rest 0 k low

-- the number whose bytes stand
pub Stands-number : (b : List ℕ) (p n x : ℕ) → x < 256 ^ n → Stands b p (little_bytes n x) → number_at n b p ≡ x
Stands-number b p n x small h = ap (little_number n) h.is ∙ little_number-little_bytes n x h.rest small

-- where zeros stand each byte is zero
pub Stands-zero : (b : List ℕ) (p n place : ℕ) → p ≤ place → place < p + n → Stands b p (replicate n 0) → get_or b place 0 ≡ 0
Stands-zero b p n place low high h =
    let at : place ≡ p + (place - p) = omega arith in
    let within : place - p < length {A = ℕ} (replicate n 0) = omega (arith, length-replicate {A = ℕ} n 0) in
    ap (λ (k : ℕ). get_or b k 0) at ∙ Stands-byte b p (place - p) (replicate n 0) within h ∙ get_or-replicate n (place - p) 0 0 (omega arith)

-- pieces of w bytes, one after the other
pub Stands-piece : {X : Type 0} (f : X → List ℕ) (b : List ℕ) (w : ℕ) (xs : List X) (p j : ℕ) (d : X)
    → All (λ x. length (f x) ≡ w) xs → j < length xs
    → Stands b p (flat_map f xs) → Stands b (p + w * j) (f (get_or xs j d))
Stands-piece f b w [] p j d each low h = absurd (omega arith)
Stands-piece f b w (x ∷ xs) p zero d each low h =
    let at : p + w * 0 ≡ p = omega arith in
    rw at (Stands-left b p (f x) (flat_map f xs) h)
Stands-piece f b w (x ∷ xs) p (suc j) d each low h =
    let at : p + w * suc j ≡ (p + w) + w * j = omega arith in
    rw at (Stands-piece f b w xs (p + w) j d (All-tail (λ y. length (f y) ≡ w) x xs each) (omega arith)
    (Stands-right b p w (f x) (flat_map f xs) (All-head (λ y. length (f y) ≡ w) x xs each) h))

-- how long pieces of w bytes are together
pub length-pieces : {X : Type 0} (f : X → List ℕ) (w : ℕ) (xs : List X) → All (λ x. length (f x) ≡ w) xs → length (flat_map f xs) ≡ w * length xs
length-pieces f w [] each = let none : 0 ≡ w * 0 = omega arith in none
length-pieces f w (x ∷ xs) each =
    let rest : length (flat_map f xs) ≡ w * length xs = length-pieces f w xs (All-tail (λ y. length (f y) ≡ w) x xs each) in
    omega (arith, length-append (f x) (flat_map f xs), All-head (λ y. length (f y) ≡ w) x xs each, rest)
