-- Keys and pairs in their order, so that finite maps can be taken over them.
use Rattle.std.specs.Prelude.{◌≡◌, ℕ, ◌+◌, ◌*◌, ◌/◌, ◌%◌, ◌<◌, Bool, true, refl}
use Rattle.std.proofs.Common.{arith, ap, sym, ◌∙◌}
use Rattle.std.specs.Coded.{Coded, code_by, coded×, coded_ℕ}
use Rattle.std.specs.declared.cmp.Ordering.{Ordering}
use Rattle.std.specs.Ordering.{nat_cmp, on, then_cmp, is_eq, eq_by_cmp}
use Rattle.std.specs.Cmp.{IsTotalOrder, nat_cmp_total, on_total, then_total, tied_then, unsigned_tied}
use Rattle.std.specs.FinMap.{IsAntisymmetric}
use Rattle.std.proofs.lemmas.Bool.{and_parts, eqb-true}
use Rattle.bd_base.specs.declared.key.Key.{Key}
use Rattle.bd_base.specs.declared.limits.TheConstants.{DESCRIPTORS, PARTS}

-- a file and one of its parts
pub record Pair : Type 0 where
  pub file : ℕ
  pub part : ℕ

-- by process, then by descriptor, then by part
abbrev pub key_cmp : Key → Key → Ordering
key_cmp = then_cmp (on (λ (key : Key). key.process) nat_cmp)
    (then_cmp (on (λ (key : Key). key.fd) nat_cmp) (on (λ (key : Key). key.part) nat_cmp))

-- by file, then by part
abbrev pub pair_cmp : Pair → Pair → Ordering
pair_cmp = then_cmp (on (λ (pair : Pair). pair.file) nat_cmp) (on (λ (pair : Pair). pair.part) nat_cmp)

-- a key is stored as its numbers
abbrev pub key_code : Coded Key
key_code =
    code_by (ℕ × (ℕ × ℕ)) (coded× coded_ℕ (coded× coded_ℕ coded_ℕ))
    (λ key. (key.process, (key.fd, key.part)))
    (λ n. record { process = n.0; fd = n.1.0; part = n.1.1 }) (λ _. refl)

-- a pair is stored as its numbers
abbrev pub pair_code : Coded Pair
pair_code =
    code_by (ℕ × ℕ) (coded× coded_ℕ coded_ℕ) (λ pair. (pair.file, pair.part))
    (λ n. record { file = n.0; part = n.1 })
    (λ _. refl)

-- whether they are the same key
abbrev pub same_key : Key → Key → Bool
same_key a b = eq_by_cmp key_cmp a b

-- whether they are the same pair
abbrev pub same_pair : Pair → Pair → Bool
same_pair a b = eq_by_cmp pair_cmp a b

-- the number of a key among all keys in order
abbrev pub key_number : Key → ℕ
key_number key = (key.process * DESCRIPTORS + key.fd) * PARTS + key.part

-- the key of a number
abbrev pub key_of : ℕ → Key
key_of n = record { process = n / PARTS / DESCRIPTORS; fd = n / PARTS % DESCRIPTORS; part = n % PARTS }

-- the number of a pair among all pairs in order
abbrev pub pair_number : Pair → ℕ
pair_number pair = pair.file * PARTS + pair.part

-- the pair of a number
abbrev pub pair_of : ℕ → Pair
pair_of n = record { file = n / PARTS; part = n % PARTS }

-- ---- they are orders, and tell all apart

pub key_cmp_total : IsTotalOrder key_cmp
key_cmp_total = then_total (on_total (λ (key : Key). key.process) nat_cmp_total)
    (then_total (on_total (λ (key : Key). key.fd) nat_cmp_total) (on_total (λ (key : Key). key.part) nat_cmp_total))

pub pair_cmp_total : IsTotalOrder pair_cmp
pair_cmp_total = then_total (on_total (λ (pair : Pair). pair.file) nat_cmp_total)
    (on_total (λ (pair : Pair). pair.part) nat_cmp_total)

numbers_tied : (m n : ℕ) → is_eq (nat_cmp m n) ≡ true → m ≡ n
numbers_tied m n tied = eqb-true m n (sym (unsigned_tied m n) ∙ tied)

pub same_key-is : (a b : Key) → same_key a b ≡ true → a ≡ b
same_key-is a b same =
    let first = and_parts _ _ (tied_then (nat_cmp a.process b.process) _ ∙ same) in
    let rest = and_parts _ _ (tied_then (nat_cmp a.fd b.fd) (nat_cmp a.part b.part) ∙ first.1) in
    let p : a.process ≡ b.process = numbers_tied _ _ first.0 in
    let f : a.fd ≡ b.fd = numbers_tied _ _ rest.0 in
    let k : a.part ≡ b.part = numbers_tied _ _ rest.1 in
    λ i. record { process = p i; fd = f i; part = k i }

pub same_pair-is : (a b : Pair) → same_pair a b ≡ true → a ≡ b
same_pair-is a b same =
    let both = and_parts _ _ (tied_then (nat_cmp a.file b.file) (nat_cmp a.part b.part) ∙ same) in
    let f : a.file ≡ b.file = numbers_tied _ _ both.0 in
    let k : a.part ≡ b.part = numbers_tied _ _ both.1 in
    λ i. record { file = f i; part = k i }

pub key_cmp-IsAntisymmetric : IsAntisymmetric key_cmp
key_cmp-IsAntisymmetric a b equal = same_key-is a b (ap is_eq equal)

pub pair_cmp-IsAntisymmetric : IsAntisymmetric pair_cmp
pair_cmp-IsAntisymmetric a b equal = same_pair-is a b (ap is_eq equal)

-- ---- numbers and keys name each other

pub key_number-key_of : (n : ℕ) → key_number (key_of n) ≡ n
key_number-key_of n = omega arith

pub pair_number-pair_of : (n : ℕ) → pair_number (pair_of n) ≡ n
pair_number-pair_of n = omega arith

pub key_of-key_number : (key : Key) → key.fd < DESCRIPTORS → key.part < PARTS → key_of (key_number key) ≡ key
key_of-key_number key fd part =
    let n : ℕ = key_number key in
    let p : n / PARTS / DESCRIPTORS ≡ key.process = omega arith in
    let f : n / PARTS % DESCRIPTORS ≡ key.fd = omega arith in
    let k : n % PARTS ≡ key.part = omega arith in
    λ i. record { process = p i; fd = f i; part = k i }

pub pair_of-pair_number : (pair : Pair) → pair.part < PARTS → pair_of (pair_number pair) ≡ pair
pair_of-pair_number pair part =
    let n : ℕ = pair_number pair in
    let f : n / PARTS ≡ pair.file = omega arith in
    let k : n % PARTS ≡ pair.part = omega arith in
    λ i. record { file = f i; part = k i }

pub keys_apart : (m n : ℕ) → same_key (key_of m) (key_of n) ≡ true → m ≡ n
keys_apart m n same = sym (key_number-key_of m) ∙ ap key_number (same_key-is _ _ same) ∙ key_number-key_of n

pub pairs_apart : (m n : ℕ) → same_pair (pair_of m) (pair_of n) ≡ true → m ≡ n
pairs_apart m n same = sym (pair_number-pair_of m) ∙ ap pair_number (same_pair-is _ _ same) ∙ pair_number-pair_of n
