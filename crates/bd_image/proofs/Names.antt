-- The field of a name is the name and zeros.
use Rattle.std.proofs.Common.{◌≡◌, ◌<◌, ◌-◌, ℕ, true, not, eqb, List, ◌++◌, length, take, get_or, replicate}
use Rattle.std.proofs.Common.{refl, ap, sym, ◌∙◌, arith}
use Rattle.std.proofs.lemmas.Bool.{ne_eqb}
use Rattle.std.proofs.lemmas.List.{get_or_append_left, get_or-append_right, get_or-replicate, length-append, length-replicate, take_at}
use Rattle.std.proofs.lemmas.List.Sums.{prefix_len_is}
use Rattle.std.specs.List.{take_while, prefix_len}
use Rattle.bd_base.specs.Names.{IsNameByte}
use Rattle.bd_image.specs.Rules.{IsNameField}

-- a byte of a name is not zero
not_zero : (c : ℕ) → IsNameByte c → not (eqb c 0) ≡ true
not_zero c h = let some : c ≡ 0 → ⊥ = omega arith in ap not (ne_eqb c 0 some)

-- what stands in a field before its first zero
before_zero : (name : List ℕ) (n : ℕ) → ((k : ℕ) → k < length name → not (eqb (get_or name k 0) 0) ≡ true)
    → prefix_len (λ c. not (eqb c 0)) (name ++ replicate n 0) ≡ length name
before_zero name n bytes =
    prefix_len_is (λ c. not (eqb c 0)) (name ++ replicate n 0) (length name) 0 (omega (arith, length-append name (replicate n 0)))
    (λ k h. ap (λ (c : ℕ). not (eqb c 0)) (get_or_append_left name (replicate n 0) 0 k h) ∙ bytes k h)
    (λ h.
    let none : length name - length name ≡ 0 = omega arith in
    let more : 0 < n = omega (arith, h, length-append name (replicate n 0), length-replicate {A = ℕ} n 0) in
    let zero' : get_or (name ++ replicate n 0) (length name) 0 ≡ 0 =
    get_or-append_right name (replicate n 0) (length name) (length name) 0 refl (omega arith)
    ∙ ap (λ (k : ℕ). get_or (replicate n 0) k 0) none ∙ get_or-replicate n 0 0 0 more in
    ap (λ (c : ℕ). not (eqb c 0)) zero')

-- what is read as the name of a field is its name
pub name-found : (field : List ℕ) (h : IsNameField field) → take_while (λ c. not (eqb c 0)) field ≡ h.name
name-found field h =
    let name : List ℕ = h.name in
    let all : List ℕ = name ++ replicate (32 - length name) 0 in
    let len : prefix_len (λ c. not (eqb c 0)) all ≡ length name =
    before_zero name (32 - length name) (λ k low. not_zero (get_or name k 0) (h.is_name.bytes k 0 low)) in
    ap (take_while (λ c. not (eqb c 0))) h.padded ∙ ap (λ (k : ℕ). take k all) len ∙ take_at name (replicate (32 - length name) 0) (length name) refl

-- the name of a field, filled up with zeros, is the field
pub name-field : (field : List ℕ) → IsNameField field
    → take_while (λ c. not (eqb c 0)) field ++ replicate (32 - length (take_while (λ c. not (eqb c 0)) field)) 0 ≡ field
name-field field h =
    ap (λ (n : List ℕ). n ++ replicate (32 - length n) 0) (name-found field h) ∙ sym h.padded
