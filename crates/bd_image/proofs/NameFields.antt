-- The fields of names: a name, and zeros up to 32 bytes.
use Rattle.std.proofs.Common.{◌≡◌, ℕ, ◌<◌, ◌≤◌, List, length, take, get_or, subst, arith, inl, inr, le_antisymm}
use Rattle.std.proofs.lemmas.Bool.{cases_lt}
use Rattle.std.proofs.lemmas.Grind.{common_steps, elements}
use Rattle.std.proofs.lemmas.List.Elements.{All-get_or, All-from_get_or}
use Rattle.bd_base.specs.Names.{IsNameByte}
use Rattle.bd_image.specs.Rules.{IsNameField}
use Rattle.bd_image.specs.Checks.{ZeroesFrom}

pub IsNameField-from_parts : (field : List ℕ) (n : ℕ) → length field ≡ 32 → 0 < n → n ≤ 31
    → ((k : ℕ) → k < n → IsNameByte (get_or field k 0)) → ZeroesFrom field n → IsNameField field
IsNameField-from_parts field n full least most bytes zeros =
    let long : length (take n field) ≡ n = grind (arith, common_steps) in
    record {
      name = take n field;
      is_name = record {
        least = omega arith;
        most = omega arith;
        bytes = All-from_get_or IsNameByte (take n field) 0
            (λ i h. let e : get_or (take n field) i 0 ≡ get_or field i 0 =
            grind (arith, common_steps) in rw e (bytes i (omega arith)));
      };
      padded = grind (arith, elements);
    }

not_zero : ¬ IsNameByte 0
not_zero h = omega arith

-- the name of a field is as long as the name bytes that the field begins with
pub name_length-is : (field : List ℕ) (n : ℕ) → length field ≡ 32 → n ≤ 32
    → ((k : ℕ) → k < n → IsNameByte (get_or field k 0)) → (n < 32 → ¬ IsNameByte (get_or field n 0))
    → (h : IsNameField field) → length h.name ≡ n
name_length-is field n full most bytes end h =
    let at : (k : ℕ) → k < length h.name → IsNameByte (get_or field k 0) =
    λ k l. let e : get_or field k 0 ≡ get_or h.name k 0 =
    grind (arith, common_steps) in rw e (All-get_or IsNameByte h.name k 0 l h.is_name.bytes) in
    let past : length h.name < 32 → get_or field (length h.name) 0 ≡ 0 = λ m. grind (arith, elements) in
    le_antisymm
    (elim (cases_lt n (length h.name)) [ inl lt ↦ absurd (end (omega arith) (at n lt)) | inr ge ↦ ge ])
    (elim (cases_lt (length h.name) n) [ inl lt ↦ absurd (not_zero (subst IsNameByte (past (omega arith)) (bytes (length h.name) lt))) | inr ge ↦ ge ])

-- a field is a name and zeros exactly where its first bytes are 1 to 31 of names, and the others zero
pub zeroes_after_name : (field : List ℕ) (n : ℕ) → length field ≡ 32 → n ≤ 32
    → ((k : ℕ) → k < n → IsNameByte (get_or field k 0)) → (n < 32 → ¬ IsNameByte (get_or field n 0))
    → IsNameField field → (0 < n) × (n ≤ 31) × ZeroesFrom field n
zeroes_after_name field n full most bytes end h =
    let e = name_length-is field n full most bytes end h in
    (omega (arith, e, h.is_name.least), omega (arith, e, h.is_name.most), λ k l m. grind (arith, elements))
