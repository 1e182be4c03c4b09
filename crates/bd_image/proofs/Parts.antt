-- Parts of a list of bytes: n of them from place p on.
use Rattle.std.proofs.Common.{◌≡◌, ◌≤◌, ◌<◌, ◌+◌, ◌*◌, ℕ, zero, suc, List, [], ◌∷◌, ◌++◌, length, take, drop}
use Rattle.std.proofs.Common.{get_or, replicate, refl, ap, sym, ◌∙◌, append_assoc, arith}
use Rattle.std.proofs.Math.Seq.{take-add}
use Rattle.std.proofs.lemmas.Grind.{same_number_lists}
use Rattle.std.proofs.lemmas.List.{drop-drop, get_or-drop, get_or-replicate, get_or-take, length-drop, length-replicate, length-take}
use Rattle.std.proofs.lemmas.List.Elements.{All-drop}
use Rattle.std.specs.List.{flat_map, range_with_len}
use Rattle.byteorder.specs.Endian.{little_bytes}
use Rattle.bd_base.specs.Bytes.{AreBytes}
use Rattle.bd_image.specs.Layout.{number_at}
use Rattle.bd_image.proofs.Numbers.{little_bytes-little_number}

-- n bytes from place p on
abbrev pub part : List ℕ → ℕ → ℕ → List ℕ
part b p n = take n (drop p b)

pub same_append : {s t u v : List ℕ} → s ≡ t → u ≡ v → s ++ u ≡ t ++ v
same_append {s} {t} {u} {v} h k = ap (λ (w : List ℕ). w ++ u) h ∙ ap (λ (w : List ℕ). t ++ w) k

-- two parts in a row are one
pub part-add : (b : List ℕ) (p n m : ℕ) → part b p (n + m) ≡ part b p n ++ part b (p + n) m
part-add b p n m = take-add n m (drop p b) ∙ ap (λ (w : List ℕ). take n (drop p b) ++ take m w) (drop-drop n p b)

pub length-part : (b : List ℕ) (p n : ℕ) → p + n ≤ length b → length (part b p n) ≡ n
length-part b p n h = omega (arith, length-take n (drop p b), length-drop p b)

pub get_or-part : (b : List ℕ) (p n k : ℕ) → k < n → get_or (part b p n) k 0 ≡ get_or b (p + k) 0
get_or-part b p n k h = get_or-take n (drop p b) k 0 h ∙ get_or-drop p b k 0

-- a part by its bytes
pub part-from_bytes : (b xs : List ℕ) (p n : ℕ) → p + n ≤ length b → length xs ≡ n
    → ((k : ℕ) → k < n → get_or xs k 0 ≡ get_or b (p + k) 0)
    → xs ≡ part b p n
part-from_bytes b xs p n within len same =
    same_number_lists xs (part b p n) (len ∙ sym (length-part b p n within))
    (λ k h. same k (omega arith) ∙ sym (get_or-part b p n k (omega arith)))

-- a part of zeros
pub part-zeros : (b : List ℕ) (p n : ℕ) → p + n ≤ length b → ((k : ℕ) → p ≤ k → k < p + n → get_or b k 0 ≡ 0)
    → replicate n 0 ≡ part b p n
part-zeros b p n within zeros =
    part-from_bytes b (replicate n 0) p n within (length-replicate n 0)
    (λ k h. get_or-replicate n k 0 0 h ∙ sym (zeros (p + k) (omega arith) (omega arith)))

pub part-one : (b : List ℕ) (p : ℕ) → p + 1 ≤ length b → get_or b p 0 ∷ [] ≡ part b p 1
part-one b p within =
    part-from_bytes b (get_or b p 0 ∷ []) p 1 within refl
    (λ k h. let first : k ≡ 0 = omega arith in rw first (let at : p + 0 ≡ p = omega arith in rw at refl))

-- the bytes of a number that stands at a place
pub part-number : (n : ℕ) (b : List ℕ) (p : ℕ) → AreBytes b → p + n ≤ length b → little_bytes n (number_at n b p) ≡ part b p n
part-number n b p are within =
    little_bytes-little_number n (drop p b) (All-drop (λ byte. byte < 256) p b are) (omega (arith, length-drop p b))

-- pieces of w bytes in a row
pub part-pieces : (f : ℕ → List ℕ) (b : List ℕ) (w p n a : ℕ) → ((j : ℕ) → a ≤ j → j < a + n → f j ≡ part b (p + w * j) w)
    → flat_map f (range_with_len a n) ≡ part b (p + w * a) (w * n)
part-pieces f b w p zero a each = let none : w * 0 ≡ 0 = omega arith in rw none refl
part-pieces f b w p (suc n) a each =
    let next : p + w * (a + 1) ≡ p + w * a + w = omega arith in
    let more : w * suc n ≡ w + w * n = omega arith in
    let rest : flat_map f (range_with_len (a + 1) n) ≡ part b (p + w * (a + 1)) (w * n) =
    part-pieces f b w p n (a + 1) (λ j low high. each j (omega arith) (omega arith)) in
    same_append (each a (omega arith) (omega arith)) (rest ∙ ap (λ (q : ℕ). part b q (w * n)) next)
    ∙ sym (part-add b (p + w * a) w (w * n))
    ∙ ap (λ (k : ℕ). part b (p + w * a) k) (sym more)

-- five appends in a row are one
pub appends-five : (l l₁ l₂ l₃ l₄ l₅ s t u v w : List ℕ) → l₁ ≡ l ++ s → l₂ ≡ l₁ ++ t → l₃ ≡ l₂ ++ u → l₄ ≡ l₃
    ++ v → l₅ ≡ l₄ ++ w
    → l₅ ≡ l ++ (s ++ t ++ u ++ v ++ w)
appends-five l l₁ l₂ l₃ l₄ l₅ s t u v w a b c d e =
    e ∙ ap (λ (k : List ℕ). k ++ w) (d ∙ ap (λ (k : List ℕ). k ++ v) (c ∙ ap (λ (k : List ℕ). k ++ u) (b ∙ ap (λ (k : List ℕ). k ++ t) a)))
    ∙ simp append_assoc

-- the appends that make up a record
pub appends-record : (l l₁ l₂ l₃ l₄ l₅ l₆ l₇ l₈ : List ℕ) (used perms : ℕ) (count owner size name pad extents rest : List ℕ)
    → l₁ ≡ l ++ used ∷ [] → l₂ ≡ l₁ ++ perms ∷ [] → l₃ ≡ l₂ ++ count → l₄ ≡ l₃ ++ owner → l₅ ≡ l₄ ++ size
    → l₆ ≡ l₅ ++ name ++ pad
    → l₇ ≡ l₆ ++ extents → l₈ ≡ l₇ ++ rest
    → l₈ ≡ l ++ (used ∷ perms ∷ count ++ owner ++ size ++ name ++ pad ++ extents ++ rest)
appends-record l l₁ l₂ l₃ l₄ l₅ l₆ l₇ l₈ used perms count owner size name pad extents rest a b c d e f g h =
    let front : l₂ ≡ l ++ (used ∷ perms ∷ []) = b ∙ ap (λ (k : List ℕ). k ++ perms ∷ []) a ∙ append_assoc l (used ∷ []) (perms ∷ []) in
    let next : l₃ ≡ l ++ (used ∷ perms ∷ count) = c ∙ ap (λ (k : List ℕ). k ++ count) front ∙ append_assoc l (used ∷ perms ∷ []) count in
    let numbers : l₅ ≡ l ++ (used ∷ perms ∷ count ++ owner ++ size) =
    e ∙ ap (λ (k : List ℕ). k ++ size) (d ∙ ap (λ (k : List ℕ). k ++ owner) next ∙ append_assoc l (used ∷ perms ∷ count) owner)
    ∙ append_assoc l (used ∷ perms ∷ count ++ owner) size in
    let named : l₆ ≡ l ++ (used ∷ perms ∷ count ++ owner ++ size ++ name ++ pad) =
    f ∙ ap (λ (k : List ℕ). k ++ name ++ pad) numbers
    ∙ ap (λ (k : List ℕ). k ++ pad) (append_assoc l (used ∷ perms ∷ count ++ owner ++ size) name)
    ∙ append_assoc l (used ∷ perms ∷ count ++ owner ++ size ++ name) pad in
    h ∙ ap (λ (k : List ℕ). k ++ rest)
    (g ∙ ap (λ (k : List ℕ). k ++ extents) named
    ∙ append_assoc l (used ∷ perms ∷ count ++ owner ++ size ++ name ++ pad) extents)
    ∙ append_assoc l (used ∷ perms ∷ count ++ owner ++ size ++ name ++ pad ++ extents) rest
