-- The rights by the numbers of their keys, through the change of one.
use Rattle.std.proofs.Common.{◌≡◌, ℕ, ◌+◌, ◌-◌, ◌*◌, ◌<◌, ◌≤◌, ◌≢◌, false, Option, None, Some, List, length, sym, ap, ◌∙◌, subst, inl, inr, arith, set, get_or, replicate}
use Rattle.std.specs.FinMap as fin
use Rattle.std.proofs.lemmas.Bool.{cases_eq, cond-false}
use Rattle.std.proofs.lemmas.List.{get_or-replicate, get_or-set_other, get_or-set_same, length-replicate, length-set}
use Rattle.bd_base.specs.declared.key.Key.{Key}
use Rattle.bd_base.specs.declared.key_list.TheConstants.{MOST_KEYS}
use Rattle.bd_base.specs.declared.limits.TheConstants.{FILES, PARTS}
use Rattle.bd_base.specs.Keys.{Pair, key_cmp, key_cmp-IsAntisymmetric, key_cmp_total, key_of, keys_apart, pair_number, pair_number-pair_of, pair_of, pair_of-pair_number, same_key}
use Rattle.bd_base.specs.Slots.{get-slots_map, get-slots_map-set, slots_map-clear, slots_map-fill, slots_map-none}
use Rattle.bd_tables.specs.declared.state.Right.{Right}
use Rattle.bd_tables.specs.Effects.{change}
use Rattle.bd_tables.specs.RightMaps.{IsRightMap, rights_of}
use Rattle.bd_tables.specs.Sound.{IsKey}
use Rattle.bd_tables.specs.State.{pair_under, users}
use Rattle.bd_tables.proofs.Maps.{change-some}
use Rattle.bd_tables.proofs.Users.{mark, mark-false, mark-true, user-counts, users-changed, users-few, users-none, uses, uses-none, uses-other, uses-own}

-- the key stands at this number, one that there may be
pub record StandsAt (key : Key) (i : ℕ) : Type 0 where
  pub within : i < MOST_KEYS
  pub is : key_of i ≡ key

pub stands_key : (key : Key) (i : ℕ) → StandsAt key i → IsKey key
stands_key key i at =
    let within : i < 1024 = at.within in
    subst IsKey at.is (record { process = omega (arith, within); fd = omega arith; part = omega arith })

pub get-rights_of : (rights : List (Option Right)) (key : Key) (i : ℕ) → length rights ≡ MOST_KEYS → StandsAt key i →
    fin.get (rights_of rights) key ≡ get_or rights i None
get-rights_of rights key i long at =
    ap (fin.get (rights_of rights)) (sym at.is)
    ∙ get-slots_map key_cmp key_of key_cmp_total keys_apart rights i (omega (arith, long, at.within))

pub rights_of-fill : (rights : List (Option Right)) (key : Key) (i : ℕ) (right : Right) → length rights ≡ MOST_KEYS → StandsAt key i →
    rights_of (set rights i (Some right)) ≡ fin.insert (rights_of rights) key right
rights_of-fill rights key i right long at =
    slots_map-fill key_cmp key_of key_cmp_total keys_apart key_cmp-IsAntisymmetric rights i right (omega (arith, long, at.within))
    ∙ ap (λ k. fin.insert (rights_of rights) k right) at.is

pub rights_of-clear : (rights : List (Option Right)) (key : Key) (i : ℕ) → length rights ≡ MOST_KEYS → StandsAt key i →
    rights_of (set rights i None) ≡ fin.remove (rights_of rights) key
rights_of-clear rights key i long at =
    slots_map-clear key_cmp key_of key_cmp_total keys_apart key_cmp-IsAntisymmetric rights i (omega (arith, long, at.within))
    ∙ ap (fin.remove (rights_of rights)) at.is

pub rights_of-change : (rights : List (Option Right)) (key : Key) (i : ℕ) (f : Right → Right) (right : Right) → length rights ≡ MOST_KEYS →
    StandsAt key i → get_or rights i None ≡ Some right → rights_of (set rights i (Some (f right))) ≡ change (rights_of rights) key f
rights_of-change rights key i f right long at is =
    rights_of-fill rights key i (f right) long at
    ∙ sym (change-some (rights_of rights) key f right (get-rights_of rights key i long at ∙ is))

rest-rights_of : (rights : List (Option Right)) (key : Key) (i : ℕ) (new : Option Right) → length rights ≡ MOST_KEYS → StandsAt key i → (q : Key) →
    same_key q key ≡ false → fin.get (rights_of (set rights i new)) q ≡ fin.get (rights_of rights) q
rest-rights_of rights key i new long at q other =
    get-slots_map-set key_cmp key_of key_cmp_total keys_apart rights i new q (omega (arith, long, at.within))
    ∙ cond-false _ _ _ (ap (same_key q) at.is ∙ other)

-- a right comes, goes or changes, and the counts with it
pub IsRightMap-changed : (rights : List (Option Right)) (counts : List ℕ) → IsRightMap rights counts → (key : Key) (i : ℕ) → StandsAt key i →
    (new : Option Right) (after : List ℕ) → length after ≡ FILES * PARTS →
    ((n : ℕ) → n < FILES * PARTS →
    get_or after n 0 + mark (uses (pair_of n) key (get_or rights i None)) ≡ get_or counts n 0 + mark (uses (pair_of n) key new)) →
    IsRightMap (set rights i new) after
IsRightMap-changed rights counts is key i at new after long step =
    let changed : List (Option Right) = set rights i new in
    let changed_long : length changed ≡ MOST_KEYS = length-set rights i new ∙ is.keys in
    record {
      keys = changed_long;
      pairs = long;
      counted = λ n below.
          let was : fin.get (rights_of rights) key ≡ get_or rights i None = get-rights_of rights key i is.keys at in
          let now : fin.get (rights_of changed) key ≡ new =
          get-rights_of changed key i changed_long at
          ∙ get_or-set_same rights i new None (omega (arith, is.keys, at.within)) in
          let users_ = users-changed (rights_of rights) (rights_of changed) key (stands_key key i at)
          (rest-rights_of rights key i new is.keys at) (pair_of n) in
          let users_was = ap (λ r. mark (uses (pair_of n) key r)) was in
          let users_now = ap (λ r. mark (uses (pair_of n) key r)) now in
          omega (arith, users_, users_was, users_now, is.counted n below, step n below);
    }

-- the pair stands at this number
pub record IsNumberOf (pair : Pair) (n : ℕ) : Type 0 where
  pub within : n < FILES * PARTS
  pub is : pair_of n ≡ pair

count-changed : (counts : List ℕ) → length counts ≡ FILES * PARTS → (pair : Pair) (place : ℕ) → IsNumberOf pair place →
    (key : Key) (right : Right) →
    pair ≡ pair_under key right → (n : ℕ) → (count : ℕ) →
    ((n ≡ place → get_or (set counts place count) n 0 ≡ count × mark (uses (pair_of n) key (Some right)) ≡ 1) ×
    (n ≢ place → get_or (set counts place count) n 0 ≡ get_or counts n 0 × mark (uses (pair_of n) key (Some right)) ≡ 0))
count-changed counts long pair place at key right own n count = (
  λ same. (
    ap (λ k. get_or (set counts place count) k 0) same ∙ get_or-set_same counts place count 0 (omega (arith, long, at.within)),
    mark-true _ (ap (λ p. uses p key (Some right)) (ap pair_of same ∙ at.is ∙ own) ∙ uses-own key right),
  ),
  λ differs. (
    get_or-set_other counts place n count 0 differs,
    mark-false _ (uses-other (pair_of n) key right (λ there.
        differs (sym (pair_number-pair_of n) ∙ ap pair_number (there ∙ sym own ∙ sym at.is) ∙ pair_number-pair_of place))),
  ),
)

none-mark : (pair : Pair) (key : Key) → mark (uses pair key None) ≡ 0
none-mark pair key = mark-false _ (uses-none pair key)

pub IsRightMap-attach : (rights : List (Option Right)) (counts : List ℕ) → IsRightMap rights counts → (key : Key) (i : ℕ) → StandsAt key i →
    get_or rights i None ≡ None → (right : Right) (pair : Pair) → pair ≡ pair_under key right → (place : ℕ) → IsNumberOf pair place →
    IsRightMap (set rights i (Some right)) (set counts place (get_or counts place 0 + 1))
IsRightMap-attach rights counts is key i at none right pair own place there =
    let count : ℕ = get_or counts place 0 + 1 in
    IsRightMap-changed rights counts is key i at (Some right) (set counts place count) (length-set counts place count ∙ is.pairs) (λ n below.
    let step = count-changed counts is.pairs pair place there key right own n count in
    let gone : mark (uses (pair_of n) key (get_or rights i None)) ≡ 0 = ap (λ r. mark (uses (pair_of n) key r)) none ∙ none-mark (pair_of n) key in
    elim (cases_eq n place) [
      | inl same ↦ let s = step.0 same in let here = ap (λ k. get_or counts k 0) same in omega (arith, gone, s.0, s.1, here)
      | inr differs ↦ let s = step.1 differs in omega (arith, gone, s.0, s.1)
    ])

pub IsRightMap-detach : (rights : List (Option Right)) (counts : List ℕ) → IsRightMap rights counts → (key : Key) (i : ℕ) → StandsAt key i →
    (right : Right) → get_or rights i None ≡ Some right → (pair : Pair) → pair ≡ pair_under key right → (place : ℕ) → IsNumberOf pair place →
    1 ≤ get_or counts place 0 → IsRightMap (set rights i None) (set counts place (get_or counts place 0 - 1))
IsRightMap-detach rights counts is key i at right was pair own place there some =
    let count : ℕ = get_or counts place 0 - 1 in
    IsRightMap-changed rights counts is key i at None (set counts place count) (length-set counts place count ∙ is.pairs) (λ n below.
    let step = count-changed counts is.pairs pair place there key right own n count in
    let had : mark (uses (pair_of n) key (get_or rights i None)) ≡ mark (uses (pair_of n) key (Some right)) = ap (λ r. mark (uses (pair_of n) key r)) was in
    let gone = none-mark (pair_of n) key in
    elim (cases_eq n place) [
      | inl same ↦ let s = step.0 same in let here = ap (λ k. get_or counts k 0) same in omega (arith, had, gone, s.0, s.1, here, some)
      | inr differs ↦ let s = step.1 differs in omega (arith, had, gone, s.0, s.1)
    ])

-- a right of the same file in place of another
pub IsRightMap-same : (rights : List (Option Right)) (counts : List ℕ) → IsRightMap rights counts → (key : Key) (i : ℕ) → StandsAt key i →
    (right new : Right) → get_or rights i None ≡ Some right → new.file ≡ right.file → IsRightMap (set rights i (Some new)) counts
unfolding uses
IsRightMap-same rights counts is key i at right new was file =
    IsRightMap-changed rights counts is key i at (Some new) counts is.pairs (λ n below.
    ap (λ r. get_or counts n 0 + mark (uses (pair_of n) key r)) was
    ∙ ap (λ f. get_or counts n 0 + mark (uses (pair_of n) key (Some (record right { file = f })))) (sym file))

-- the count of the pair of an attached right
pub count-attached : (rights : List (Option Right)) (counts : List ℕ) → IsRightMap rights counts → (key : Key) (i : ℕ) → StandsAt key i →
    (right : Right) → get_or rights i None ≡ Some right → (pair : Pair) → pair ≡ pair_under key right → (place : ℕ) → IsNumberOf pair place →
    1 ≤ get_or counts place 0
count-attached rights counts is key i at right was pair own place there =
    let has : fin.get (rights_of rights) key ≡ Some right = get-rights_of rights key i is.keys at ∙ was in
    let some = user-counts (rights_of rights) key right has (stands_key key i at) in
    omega (arith, is.counted place there.within, ap (users (rights_of rights)) (there.is ∙ own), some)

pub count-few : (rights : List (Option Right)) (counts : List ℕ) → IsRightMap rights counts → (pair : Pair) (place : ℕ) → IsNumberOf pair place →
    get_or counts place 0 ≤ 128
count-few rights counts is pair place there = omega (arith, is.counted place there.within, users-few (rights_of rights) (pair_of place))

-- no right is attached
pub rights_of-none : (rights : List (Option Right)) → rights ≡ replicate MOST_KEYS None → rights_of rights ≡ fin.empty
rights_of-none rights is = ap rights_of is ∙ slots_map-none key_cmp key_of MOST_KEYS

pub IsRightMap-none : (rights : List (Option Right)) (counts : List ℕ) → rights ≡ replicate MOST_KEYS None → counts ≡ replicate (FILES * PARTS) 0 →
    IsRightMap rights counts
IsRightMap-none rights counts r c = record {
  keys = ap length r ∙ length-replicate {A = Option Right} MOST_KEYS None;
  pairs = ap length c ∙ length-replicate {A = ℕ} (FILES * PARTS) 0;
  counted = λ n below.
      ap (λ cs. get_or cs n 0) c ∙ get_or-replicate (FILES * PARTS) n 0 0 below
      ∙ sym (ap (λ rs. users rs (pair_of n)) (rights_of-none rights r) ∙ users-none (pair_of n));
}

pub is_number_of : (pair : Pair) (n : ℕ) → n < FILES * PARTS → n ≡ pair_number pair → pair.part < PARTS → IsNumberOf pair n
is_number_of pair n within is part = record { within = within; is = ap pair_of is ∙ pair_of-pair_number pair part }
