-- How many keys use a pair, through the change of one right.
use Rattle.std.proofs.Common.{◌≡◌, ℕ, zero, suc, ◌+◌, ◌*◌, ◌/◌, ◌%◌, ◌<◌, ◌≤◌, ◌≢◌, Bool, true, false, ◌&&◌, cond, nat_eq, Option, None, Some, refl, sym, ap, ◌∙◌, subst, inl, inr, arith, add-zero, zero-add}
use Rattle.std.specs.List.{count_by, range_with_len}
use Rattle.std.specs.FinMap as fin
use Rattle.std.specs.Option.{option_map}
use Rattle.std.proofs.lemmas.Bool.{and_parts, cases_Bool, cond-true, cond-false, eq-eqb, eqb-true, false≢true, true≢false}
use Rattle.std.proofs.lemmas.List.Sums.{count_by-le-length, sum_by-cons}
use Rattle.bd_base.specs.declared.key.Key.{Key}
use Rattle.bd_base.specs.declared.limits.TheConstants.{DESCRIPTORS, PROCESSES}
use Rattle.bd_base.specs.Keys.{Pair, key_cmp, same_key, same_key-is}
use Rattle.bd_tables.specs.declared.state.Right.{Right}
use Rattle.bd_tables.specs.Sound.{IsKey}
use Rattle.bd_tables.specs.State.{Rights, is_about, key_of_part, pair_under, users}

-- ---- counting the numbers from a on

-- 1 where a test passes, else 0
unfoldable pub mark : Bool → ℕ
mark passes = cond passes 1 0

pub mark-true : (passes : Bool) → passes ≡ true → mark passes ≡ 1
unfolding mark
mark-true passes is = cond-true _ _ _ is

pub mark-false : (passes : Bool) → passes ≡ false → mark passes ≡ 0
unfolding mark
mark-false passes is = cond-false _ _ _ is

count-cons : (p : ℕ → Bool) (a n : ℕ) → count_by p (range_with_len a (suc n)) ≡ mark (p a) + count_by p (range_with_len (a + 1) n)
unfolding mark
count-cons p a n = sum_by-cons (λ m. cond (p m) 1 0) a (range_with_len (a + 1) n)

count-alike : (p q : ℕ → Bool) (a n : ℕ) → ((j : ℕ) → a ≤ j → p j ≡ q j) →
    count_by p (range_with_len a n) ≡ count_by q (range_with_len a n)
count-alike p q a zero alike = refl
count-alike p q a (suc n) alike =
    let first : mark (p a) ≡ mark (q a) = ap mark (alike a (omega arith)) in
    let rest = count-alike p q (a + 1) n (λ j above. alike j (omega arith)) in
    omega (arith, count-cons p a n, count-cons q a n, first, rest)

count-changed : (p q : ℕ → Bool) (a n k : ℕ) → k < n → ((j : ℕ) → j ≢ a + k → p j ≡ q j) →
    count_by q (range_with_len a n) + mark (p (a + k)) ≡ count_by p (range_with_len a n) + mark (q (a + k))
count-changed p q a zero k below alike = absurd (omega arith)
count-changed p q a (suc n) zero below alike =
    let here : a + 0 ≡ a = add-zero a in
    let rest = count-alike p q (a + 1) n (λ j above. alike j (λ same. omega arith)) in
    omega (arith, count-cons p a n, count-cons q a n, rest, ap (λ m. mark (p m)) here, ap (λ m. mark (q m)) here)
count-changed p q a (suc n) (suc k) below alike =
    let place : a + suc k ≡ a + 1 + k = omega arith in
    let first : mark (p a) ≡ mark (q a) = ap mark (alike a (λ same. omega arith)) in
    let rest = count-changed p q (a + 1) n k (omega arith) (λ j other. alike j (λ same. other (same ∙ place))) in
    omega (arith, count-cons p a n, count-cons q a n, first, rest, ap (λ m. mark (p m)) place, ap (λ m. mark (q m)) place)

counts : (p : ℕ → Bool) (a n k : ℕ) → k < n → p (a + k) ≡ true → 0 < count_by p (range_with_len a n)
counts p a zero k below yes_ = absurd (omega arith)
counts p a (suc n) zero below yes_ =
    omega (arith, count-cons p a n, mark-true (p a) (subst (λ m. p m ≡ true) (add-zero a) yes_))
counts p a (suc n) (suc k) below yes_ =
    let place : a + suc k ≡ a + 1 + k = omega arith in
    omega (arith, count-cons p a n, counts p (a + 1) n k (omega arith) (subst (λ m. p m ≡ true) place yes_))

-- a number that passes
pub record Passes (p : ℕ → Bool) : Type 0 where
  pub number : ℕ
  pub passes : p number ≡ true

counted : (p : ℕ → Bool) (a n : ℕ) → 0 < count_by p (range_with_len a n) → Passes p
counted p a zero some = absurd (omega arith)
counted p a (suc n) some = elim (cases_Bool (p a)) [
  | inl yes_ ↦ record { number = a; passes = yes_ }
  | inr no_ ↦ counted p (a + 1) n (omega (arith, count-cons p a n, mark-false (p a) no_))
]

-- ---- the keys of a part

place : Key → ℕ
place key = key.process * DESCRIPTORS + key.fd

place-below : (key : Key) → IsKey key → place key < PROCESSES * DESCRIPTORS
unfolding place
place-below key is = omega (arith, is.process, is.fd)

key_of_part-place : (key : Key) → IsKey key → key_of_part key.part (place key) ≡ key
unfolding place
key_of_part-place key is =
    let n : ℕ = key.process * DESCRIPTORS + key.fd in
    let process : n / DESCRIPTORS ≡ key.process = omega (arith, is.fd) in
    let fd : n % DESCRIPTORS ≡ key.fd = omega (arith, is.fd) in
    λ i. record { process = process i; fd = fd i; part = key.part }

place-key_of_part : (part n : ℕ) → place (key_of_part part n) ≡ n
unfolding place
place-key_of_part part n = omega arith

-- ---- whether a right of the key is about the pair

unfoldable pub uses : Pair → Key → Option Right → Bool
uses pair key right = nat_eq pair.part key.part && is_about pair.file right

pub uses-none : (pair : Pair) (key : Key) → uses pair key None ≡ false
unfolding uses
uses-none pair key = elim (nat_eq pair.part key.part) as (λ b. (b && false) ≡ false) [ true ↦ refl | false ↦ refl ]

pub uses-own : (key : Key) (right : Right) → uses (pair_under key right) key (Some right) ≡ true
unfolding uses
uses-own key right = ap (λ b. b && nat_eq right.file right.file) (eq-eqb key.part key.part refl) ∙ eq-eqb right.file right.file refl

pub uses-other : (pair : Pair) (key : Key) (right : Right) → (pair ≡ pair_under key right → ⊥) → uses pair key (Some right) ≡ false
unfolding uses
uses-other pair key right other = elim (cases_Bool (nat_eq pair.part key.part && nat_eq right.file pair.file)) [
  | inl both ↦
      let parts = and_parts _ _ both in
      let file : pair.file ≡ right.file = sym (eqb-true _ _ parts.1) in
      let part : pair.part ≡ key.part = eqb-true _ _ parts.0 in
      absurd (other (λ i. record { file = file i; part = part i }))
  | inr no_ ↦ no_
]

pub uses-same : (pair : Pair) (key : Key) (f : Right → Right) → ((r : Right) → (f r).file ≡ r.file) → (right : Option Right) →
    uses pair key (option_map f right) ≡ uses pair key right
unfolding uses
uses-same pair key f file None = refl
uses-same pair key f file (Some r) = ap (λ n. nat_eq pair.part key.part && nat_eq n pair.file) (file r)

-- ---- users

pub user-counts : (rights : Rights) (q : Key) (right : Right) → fin.get rights q ≡ Some right → IsKey q → 0 < users rights (pair_under q right)
unfolding users
user-counts rights q right has is_key =
    counts (λ n. is_about right.file (fin.get rights (key_of_part q.part n))) 0 (PROCESSES * DESCRIPTORS) (place q) (place-below q is_key)
    (ap (λ m. is_about right.file (fin.get rights (key_of_part q.part m))) (zero-add (place q))
    ∙ ap (λ k. is_about right.file (fin.get rights k)) (key_of_part-place q is_key) ∙ ap (is_about right.file) has ∙ eq-eqb right.file right.file refl)

-- a key that uses a pair
pub record IsUser (rights : Rights) (pair : Pair) : Type 0 where
  pub key : Key
  pub part : key.part ≡ pair.part
  pub right : Right
  pub has : fin.get rights key ≡ Some right

user_at : (rights : Rights) (pair : Pair) (n : ℕ) (right : Option Right) → fin.get rights (key_of_part pair.part n) ≡ right →
    is_about pair.file right ≡ true → IsUser rights pair
user_at rights pair n None has about = absurd (false≢true about)
user_at rights pair n (Some right) has about = record { key = key_of_part pair.part n; part = refl; right = right; has = has }

pub some_user : (rights : Rights) (pair : Pair) → 0 < users rights pair → IsUser rights pair
unfolding users
some_user rights pair some =
    let one = counted (λ n. is_about pair.file (fin.get rights (key_of_part pair.part n))) 0 (PROCESSES * DESCRIPTORS) some in
    user_at rights pair one.number _ refl one.passes

pub users-few : (rights : Rights) (pair : Pair) → users rights pair ≤ 128
unfolding users
users-few rights pair =
    count_by-le-length (λ n. is_about pair.file (fin.get rights (key_of_part pair.part n))) (range_with_len 0 (PROCESSES * DESCRIPTORS))

users-changed_in : (old new : Rights) (key : Key) (pair : Pair) → IsKey key →
    ((q : Key) → same_key q key ≡ false → fin.get new q ≡ fin.get old q) → (b : Bool) → nat_eq pair.part key.part ≡ b →
    users new pair + mark (b && is_about pair.file (fin.get old key)) ≡ users old pair + mark (b && is_about pair.file (fin.get new key))
unfolding users
users-changed_in old new key pair is rest true same =
    let part : pair.part ≡ key.part = eqb-true _ _ same in
    let p = λ (n : ℕ). is_about pair.file (fin.get old (key_of_part pair.part n)) in
    let q = λ (n : ℕ). is_about pair.file (fin.get new (key_of_part pair.part n)) in
    let here : key_of_part pair.part (0 + place key) ≡ key =
    ap (key_of_part pair.part) (zero-add (place key)) ∙ ap (λ part. key_of_part part (place key)) part ∙ key_of_part-place key is in
    let change = count-changed p q 0 (PROCESSES * DESCRIPTORS) (place key) (place-below key is) (λ j other.
    ap (is_about pair.file) (sym (rest (key_of_part pair.part j) (elim (cases_Bool (same_key (key_of_part pair.part j) key)) [
      | inl also ↦
          let there : j ≡ place key = sym (place-key_of_part pair.part j) ∙ ap place (same_key-is _ _ also) in
          absurd (other (there ∙ sym (zero-add (place key))))
      | inr differs ↦ differs
    ])))) in
    omega (arith, change, ap (λ k. mark (is_about pair.file (fin.get old k))) here, ap (λ k. mark (is_about pair.file (fin.get new k))) here)
users-changed_in old new key pair is rest false differs =
    let alike = count-alike (λ n. is_about pair.file (fin.get new (key_of_part pair.part n))) (λ n. is_about pair.file (fin.get old
    (key_of_part pair.part n)))
    0 (PROCESSES * DESCRIPTORS) (λ j above.
    ap (is_about pair.file) (rest (key_of_part pair.part j) (elim (cases_Bool (same_key (key_of_part pair.part j) key)) [
      | inl also ↦
          let there : key_of_part pair.part j ≡ key = same_key-is _ _ also in
          let part : pair.part ≡ key.part = ap (λ (k : Key). k.part) there in
          absurd (true≢false (sym (eq-eqb pair.part key.part part) ∙ differs))
      | inr other ↦ other
    ]))) in
    ap (λ n. n + mark false) alike

pub users-changed : (old new : Rights) (key : Key) → IsKey key → ((q : Key) → same_key q key ≡ false → fin.get new q ≡ fin.get old q) →
    (pair : Pair) →
    users new pair + mark (uses pair key (fin.get old key)) ≡ users old pair + mark (uses pair key (fin.get new key))
unfolding uses
users-changed old new key is rest pair = users-changed_in old new key pair is rest _ refl

count-none : (a n : ℕ) → count_by (λ _. false) (range_with_len a n) ≡ 0
count-none a zero = refl
count-none a (suc n) = omega (arith, count-cons (λ _. false) a n, count-none (a + 1) n, mark-false false refl)

-- where no right is attached no pair is used
pub users-none : (pair : Pair) → users fin.empty pair ≡ 0
unfolding users
users-none pair =
    count-alike (λ n. is_about pair.file (fin.get fin.empty (key_of_part pair.part n))) (λ _. false) 0 (PROCESSES * DESCRIPTORS)
    (λ j above. ap (is_about pair.file) (fin.get-empty key_cmp (key_of_part pair.part j)))
    ∙ count-none 0 (PROCESSES * DESCRIPTORS)
