-- Fields of lines: a text is split at the first byte of a kind in one way only.
use Rattle.std.specs.Prelude.{nat_eq}
use Rattle.std.proofs.Common.{◌≡◌, ◌≢◌, ℕ, ◌<◌, ◌≤◌, true, false, List, [], ◌∷◌, ◌++◌, length, get_or, suc, refl, sym, ap, ◌∙◌, arith, ⊎_elim}
use Rattle.std.proofs.lemmas.Bool.Decides.{nat_tests}
use Rattle.bd_base.specs.Names.{IsName, IsNameByte}
use Rattle.bd_blocks.specs.Texts.{before, has_byte}
use Rattle.bd_blocks.specs.declared.text.TheConstants.{SPACE}

-- a list is split at the first of a byte in one way only
pub unique_split : (byte : ℕ) (a b r s : List ℕ) → has_byte byte a ≡ false → has_byte byte b ≡ false
    → a ++ byte ∷ r ≡ b ++ byte ∷ s → (a ≡ b) × (r ≡ s)
unique_split byte [] [] r s none_a none_b same = (refl, cc same)
unique_split byte [] (y ∷ b) r s none_a none_b same =
    let first : byte ≡ y = cc same in
    let no : nat_eq byte y ≡ false = grind (arith, none_b) in
    absurd (grind (arith, nat_tests))
unique_split byte (x ∷ a) [] r s none_a none_b same =
    let first : x ≡ byte = cc same in
    let no : nat_eq byte x ≡ false = grind (arith, none_a) in
    absurd (grind (arith, nat_tests))
unique_split byte (x ∷ a) (y ∷ b) r s none_a none_b same =
    let first : x ≡ y = cc same in
    let more : a ++ byte ∷ r ≡ b ++ byte ∷ s = cc same in
    let none_more : has_byte byte a ≡ false = grind (arith, none_a) in
    let none_other : has_byte byte b ≡ false = grind (arith, none_b) in
    let rest = unique_split byte a b r s none_more none_other more in
    (ap (λ (z : ℕ). z ∷ a) first ∙ ap (λ (xs : List ℕ). y ∷ xs) rest.0, rest.1)

-- the byte stands in what is split at it
has-middle : (byte : ℕ) (a b : List ℕ) → has_byte byte (a ++ byte ∷ b) ≡ true
has-middle byte [] b = grind (arith, nat_tests)
has-middle byte (x ∷ a) b = grind (arith, nat_tests, has-middle byte a b)

-- a text without the byte is not split at it
pub no_split : (byte : ℕ) (text a b : List ℕ) → has_byte byte text ≡ false → text ≢ a ++ byte ∷ b
no_split byte text a b none same =
    let some : has_byte byte text ≡ true = ap (has_byte byte) same ∙ has-middle byte a b in
    let never : ⊥ = cc (none, some) in
    never

-- two texts without the byte have none together
pub append-has_no : (byte : ℕ) (a b : List ℕ) → has_byte byte a ≡ false → has_byte byte b ≡ false
    → has_byte byte (a ++ b) ≡ false
append-has_no byte [] b none_a none_b = none_b
append-has_no byte (x ∷ a) b none_a none_b =
    let other : nat_eq byte x ≡ false = grind (arith, none_a) in
    let none : has_byte byte a ≡ false = grind (arith, none_a) in
    rw other (append-has_no byte a b none none_b)

-- the bytes of a name stand after the comma
name_byte-above : (c : ℕ) → IsNameByte c → 45 ≤ c
name_byte-above c is =
    ⊎_elim (λ letter. omega arith)
    (λ other. ⊎_elim (λ digit. omega arith)
    (λ mark. ⊎_elim (λ dot. omega arith) (λ line. ⊎_elim (λ under. omega arith) (λ dash. omega arith) line) mark) other) is

name_bytes-have_no : (byte : ℕ) → byte < 45 → (name : List ℕ) → ((k : ℕ) → k < length name → IsNameByte (get_or name k 0))
    → has_byte byte name ≡ false
name_bytes-have_no byte low [] bytes = refl
name_bytes-have_no byte low (x ∷ name) bytes =
    let above : 45 ≤ x = name_byte-above x (bytes 0 (omega arith)) in
    let other : nat_eq byte x ≡ false = grind (arith, nat_tests) in
    rw other (name_bytes-have_no byte low name (λ k lt. bytes (suc k) (omega arith)))

-- no byte below those of a name stands in a name
pub name-has_no : (byte : ℕ) → byte < 45 → (name : List ℕ) → IsName name → has_byte byte name ≡ false
name-has_no byte low name is = name_bytes-have_no byte low name (λ k lt. is.bytes k 0 lt)

-- the fields of two readings are the same, and so is what follows them
pub same_fields : (text x r y s : List ℕ) → text ≡ x ++ SPACE ∷ r → has_byte SPACE x ≡ false → text ≡ before y s
    → has_byte SPACE y ≡ false → (x ≡ y) × (r ≡ s)
same_fields text x r y s splits one_word other_splits other_word =
    unique_split SPACE x y r s one_word other_word (sym splits ∙ other_splits)
