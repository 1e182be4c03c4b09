-- The turns of a revocation fall with each of its turns, and rise with none of another call.
use Rattle.std.proofs.Common.{◌≡◌, ◌≢◌, ℕ, ◌+◌, ◌<◌, ◌≤◌, Bool, true, false, not, ◌||◌, cond, List, [], ◌∷◌, ◌++◌, length, Option, None, Some, refl, sym, ap, ◌∙◌, subst, arith, ⊎_elim}
use Rattle.std.specs.Prelude.{count_by}
use Rattle.std.specs.FinMap as fin
use Rattle.std.specs.Cmp.{tied_itself}
use Rattle.std.specs.Ordering.{is_eq}
use Rattle.std.proofs.lemmas.Bool.{both_ways, cases_Bool, cond-false, cond-true, false_from_ne_true, false≢true, or_left, or_right}
use Rattle.std.proofs.lemmas.List.Folds.{list_any-append}
use Rattle.std.proofs.lemmas.List.Sums.{count_by-le-length}
use Rattle.bd_base.specs.declared.key.Key.{Key}
use Rattle.bd_base.specs.declared.limits.TheConstants.{DESCRIPTORS, PARTS, PROCESSES}
use Rattle.bd_base.specs.Keys.{key_cmp_total, same_key, same_key-is}
use Rattle.bd_tables.specs.declared.state.Right.{Right}
use Rattle.bd_tables.specs.declared.state.RightState.{RightState}
use Rattle.bd_tables.specs.declared.state.RightState.TheVariants as states
use Rattle.bd_tables.specs.Sound.{IsKey}
use Rattle.bd_tables.specs.State.{Rights}
use Rattle.bd_turns.specs.Processors.{is_posted}
use Rattle.bd_turns.specs.Rest.{key_turns, revocation_turns, right_turns, slot_turns}
use Rattle.bd_turns.specs.State.{Posted}
use Rattle.bd_turns.proofs.Sums.{sum_below_by, sum_bound, sum_less}

-- ---- one key

pub same_key-self : (key : Key) → same_key key key ≡ true
same_key-self key = ap is_eq (tied_itself key_cmp_total key)

-- each key takes at most as many turns
abbrev pub NoneRises : Rights → List Posted → Rights → List Posted → (Key → Right → Bool) → Type 0
NoneRises rights posted after posted_after test =
    (key : Key) → key_turns after posted_after test key ≤ key_turns rights posted test key

cond_less : (b c : Bool) (x y : ℕ) → c ≡ b → x ≤ y → cond c x 0 ≤ cond b y 0
cond_less true true x y same less = less
cond_less true false x y same less = absurd (false≢true same)
cond_less false true x y same less = absurd (false≢true (sym same))
cond_less false false x y same less = omega arith

cond_falls : (b c : Bool) (x y : ℕ) → c ≡ b → b ≡ true → x + 1 ≤ y → cond c x 0 + 1 ≤ cond b y 0
cond_falls true true x y same is less = less
cond_falls true false x y same is less = absurd (false≢true same)
cond_falls false c x y same is less = absurd (false≢true is)

-- a right that is posted takes at most as many turns as one that is not
posted_less : (b c : Bool) (state : RightState) → (b ≡ true → c ≡ true) → right_turns c state ≤ right_turns b state
posted_less b c states.On keeps = omega arith
posted_less true true states.Cleared keeps = omega arith
posted_less true false states.Cleared keeps = absurd (false≢true (keeps refl))
posted_less false true states.Cleared keeps = omega arith
posted_less false false states.Cleared keeps = omega arith
posted_less b c (states.Drained swept) keeps = omega arith

slot_posted : (test : Right → Bool) (b c : Bool) (slot : Option Right) → (b ≡ true → c ≡ true) → slot_turns test c slot ≤ slot_turns test b slot
slot_posted test b c None keeps = omega arith
slot_posted test b c (Some right) keeps =
    cond_less (test right) (test right) (right_turns c right.state) (right_turns b right.state) refl (posted_less b c right.state keeps)

-- at one key, or at another
at_key : (P : Key → Type 0) (k key : Key) → (key ≢ k → P key) → P k → P key
at_key P k key other here =
    ⊎_elim
    (λ same. subst P (sym (same_key-is key k same)) here)
    (λ apart. other (λ same. both_ways (same_key k k) (subst (λ (x : Key). same_key x k ≡ false) same apart) (same_key-self k)))
    (cases_Bool (same_key key k))

-- ---- a right in another state

module _ (rights after : Rights) (posted : List Posted) (k : Key) (r new : Right) (is : fin.get rights k ≡ Some r) (here : fin.get after k ≡ Some new)
    (others : (other : Key) → other ≢ k → fin.get after other ≡ fin.get rights other) (test : Key → Right → Bool) (same : test k new ≡ test k r) where
  -- the turns of the key after the change, and before
  after_is : key_turns after posted test k ≡ cond (test k new) (right_turns (is_posted posted k) new.state) 0
  after_is = ap (slot_turns (test k) (is_posted posted k)) here

  before_is : key_turns rights posted test k ≡ cond (test k r) (right_turns (is_posted posted k) r.state) 0
  before_is = ap (slot_turns (test k) (is_posted posted k)) is

  pub change_rises_not : right_turns (is_posted posted k) new.state ≤ right_turns (is_posted posted k) r.state → NoneRises rights posted after posted test
  change_rises_not less key =
      at_key (λ key. key_turns after posted test key ≤ key_turns rights posted test key) k key
      (λ other.
      let stays : key_turns after posted test key ≡ key_turns rights posted test key =
      ap (slot_turns (test key) (is_posted posted key)) (others key other) in
      omega arith)
      (let less_here = cond_less (test k r) (test k new) (right_turns (is_posted posted k) new.state) (right_turns (is_posted posted k) r.state) same less in
      omega (arith, after_is, before_is, less_here))

  pub change_falls : test k r ≡ true → right_turns (is_posted posted k) new.state + 1 ≤ right_turns (is_posted posted k) r.state →
      key_turns after posted test k + 1 ≤ key_turns rights posted test k
  change_falls passes less =
      let falls_here =
      cond_falls (test k r) (test k new) (right_turns (is_posted posted k) new.state) (right_turns (is_posted posted k) r.state) same passes less in
      omega (arith, after_is, before_is, falls_here)

-- ---- a right that is taken away

module _ (rights after : Rights) (post : Posted) (rest : List Posted) (here : fin.get after post.key ≡ None)
    (others : (other : Key) → other ≢ post.key → fin.get after other ≡ fin.get rights other) (test : Key → Right → Bool) where
  gone : key_turns after rest test post.key ≡ 0
  gone = ap (slot_turns (test post.key) (is_posted rest post.key)) here

  pub remove_rises_not : NoneRises rights (post ∷ rest) after rest test
  remove_rises_not key =
      at_key (λ key. key_turns after rest test key ≤ key_turns rights (post ∷ rest) test key) post.key key
      (λ other.
      let apart : same_key post.key key ≡ false =
      false_from_ne_true (same_key post.key key) (λ same. other (sym (same_key-is post.key key same))) in
      let posted_same : is_posted (post ∷ rest) key ≡ is_posted rest key = ap (λ (b : Bool). b || is_posted rest key) apart in
      let stays : key_turns after rest test key ≡ key_turns rights (post ∷ rest) test key =
      ap (slot_turns (test key) (is_posted rest key)) (others key other)
      ∙ ap (λ (b : Bool). slot_turns (test key) b (fin.get rights key)) (sym posted_same) in
      omega arith)
      (omega (arith, gone))

  pub remove_falls : (r : Right) → fin.get rights post.key ≡ Some r → test post.key r ≡ true → 1 ≤ right_turns (is_posted (post ∷ rest) post.key) r.state →
      key_turns after rest test post.key + 1 ≤ key_turns rights (post ∷ rest) test post.key
  remove_falls r is passes some =
      let turns : ℕ = right_turns (is_posted (post ∷ rest) post.key) r.state in
      let was : key_turns rights (post ∷ rest) test post.key ≡ turns =
      ap (slot_turns (test post.key) (is_posted (post ∷ rest) post.key)) is ∙ cond-true (test post.key r) turns 0 passes in
      omega (arith, gone, was, some)

-- ---- a right whose invalidation is posted

is_posted-push : (posted : List Posted) (post : Posted) (key : Key) →
    is_posted (posted ++ post ∷ []) key ≡ (is_posted posted key || (same_key post.key key || false))
is_posted-push posted post key = list_any-append (λ (p : Posted). same_key p.key key) posted (post ∷ [])

module _ (rights after : Rights) (posted : List Posted) (post : Posted) (stays : (key : Key) → fin.get after key ≡ fin.get rights key)
    (test : Key → Right → Bool) where
  pub post_rises_not : NoneRises rights posted after (posted ++ post ∷ []) test
  post_rises_not key =
      let less =
      slot_posted (test key) (is_posted posted key) (is_posted (posted ++ post ∷ []) key) (fin.get rights key)
      (λ was. is_posted-push posted post key ∙ or_left (is_posted posted key) (same_key post.key key || false) was) in
      let same : key_turns after (posted ++ post ∷ []) test key ≡ key_turns rights (posted ++ post ∷ []) test key =
      ap (slot_turns (test key) (is_posted (posted ++ post ∷ []) key)) (stays key) in
      omega (arith, same, less)

  pub post_falls : (r : Right) → fin.get rights post.key ≡ Some r → r.state ≡ states.Cleared → test post.key r ≡ true → is_posted posted post.key ≡ false →
      key_turns after (posted ++ post ∷ []) test post.key + 1 ≤ key_turns rights posted test post.key
  post_falls r is cleared passes unposted =
      let now : is_posted (posted ++ post ∷ []) post.key ≡ true =
      is_posted-push posted post post.key
      ∙ or_right (is_posted posted post.key) (same_key post.key post.key || false) (or_left (same_key post.key post.key) false (same_key-self post.key)) in
      let turns : Bool → RightState → ℕ = λ b state. cond (test post.key r) (right_turns b state) 0 in
      let new : key_turns after (posted ++ post ∷ []) test post.key ≡ 18 =
      ap (slot_turns (test post.key) (is_posted (posted ++ post ∷ []) post.key)) (stays post.key ∙ is)
      ∙ ap (λ (b : Bool). turns b r.state) now ∙ ap (turns true) cleared ∙ cond-true (test post.key r) 18 0 passes in
      let before : key_turns rights posted test post.key ≡ 19 =
      ap (slot_turns (test post.key) (is_posted posted post.key)) is
      ∙ ap (λ (b : Bool). turns b r.state) unposted ∙ ap (turns false) cleared ∙ cond-true (test post.key r) 19 0 passes in
      omega (arith, new, before)

-- ---- a new right that is none of these

pub attach_rises_not : (rights after : Rights) (posted : List Posted) (k : Key) (r : Right) (test : Key → Right → Bool) → fin.get after k ≡ Some r →
    ((other : Key) → other ≢ k → fin.get after other ≡ fin.get rights other) → test k r ≡ false → NoneRises rights posted after posted test
attach_rises_not rights after posted k r test here others fails key =
    at_key (λ key. key_turns after posted test key ≤ key_turns rights posted test key) k key
    (λ other.
    let stays : key_turns after posted test key ≡ key_turns rights posted test key =
    ap (slot_turns (test key) (is_posted posted key)) (others key other) in
    omega arith)
    (let turns : ℕ = right_turns (is_posted posted k) r.state in
    let none : key_turns after posted test k ≡ 0 =
    ap (slot_turns (test k) (is_posted posted k)) here ∙ cond-false (test k r) turns 0 fails in
    omega arith)

-- ---- rights that stay

pub stay_rises_not : (rights after : Rights) (posted : List Posted) (test : Key → Right → Bool) → ((key : Key) → fin.get after key ≡ fin.get rights key) →
    NoneRises rights posted after posted test
stay_rises_not rights after posted test stays key =
    let same : key_turns after posted test key ≡ key_turns rights posted test key =
    ap (slot_turns (test key) (is_posted posted key)) (stays key) in
    omega arith

-- ---- all keys

pub revocation_rises_not : (rights after : Rights) (posted posted_after : List Posted) (test : Key → Right → Bool) →
    NoneRises rights posted after posted_after test → revocation_turns after posted_after test ≤ revocation_turns rights posted test
revocation_rises_not rights after posted posted_after test each =
    sum_less _ _ 0 PROCESSES (λ process. sum_less _ _ 0 DESCRIPTORS (λ fd. sum_less _ _ 0 PARTS (λ part.
    each (record { process = process; fd = fd; part = part }))))

pub revocation_falls : (rights after : Rights) (posted posted_after : List Posted) (test : Key → Right → Bool) (k : Key) → IsKey k →
    NoneRises rights posted after posted_after test → key_turns after posted_after test k + 1 ≤ key_turns rights posted test k →
    revocation_turns after posted_after test + 1 ≤ revocation_turns rights posted test
revocation_falls rights after posted posted_after test k key each less =
    let there : k.process < 16 = key.process in
    let of_process : k.fd < 8 = key.fd in
    let of_fd : k.part < 8 = key.part in
    sum_below_by _ _ 0 PROCESSES k.process (omega arith) (omega arith)
    (λ process. sum_less _ _ 0 DESCRIPTORS (λ fd. sum_less _ _ 0 PARTS (λ part. each (record { process = process; fd = fd; part = part }))))
    (sum_below_by _ _ 0 DESCRIPTORS k.fd (omega arith) (omega arith)
    (λ fd. sum_less _ _ 0 PARTS (λ part. each (record { process = k.process; fd = fd; part = part })))
    (sum_below_by _ _ 0 PARTS k.part (omega arith) (omega arith) (λ part. each (record { process = k.process; fd = k.fd; part = part })) less))

pub revocation_bound : (rights : Rights) (posted : List Posted) (test : Key → Right → Bool) →
    ((key : Key) (right : Right) (swept : List Bool) → fin.get rights key ≡ Some right → right.state ≡ states.Drained swept → length swept ≡ 16) →
    revocation_turns rights posted test ≤ 20480
revocation_bound rights posted test marked =
    sum_bound _ 0 PROCESSES 1280 (λ process. sum_bound _ 0 DESCRIPTORS 160 (λ fd. sum_bound _ 0 PARTS 20 (λ part.
    one (record { process = process; fd = fd; part = part }))))
  where
    state_bound : (key : Key) (right : Right) (b : Bool) (state : RightState) → right.state ≡ state → fin.get rights key ≡ Some right →
        right_turns b state ≤ 20
    state_bound key right b states.On same is = omega arith
    state_bound key right true states.Cleared same is = omega arith
    state_bound key right false states.Cleared same is = omega arith
    state_bound key right b (states.Drained swept) same is =
        let lines : length swept ≡ 16 = marked key right swept is same in
        let few : count_by not swept ≤ length swept = count_by-le-length not swept in
        omega arith

    cond_bound : (b : Bool) (x : ℕ) → x ≤ 20 → cond b x 0 ≤ 20
    cond_bound true x less = less
    cond_bound false x less = omega arith

    slot_bound : (key : Key) (slot : Option Right) → fin.get rights key ≡ slot → slot_turns (test key) (is_posted posted key) slot ≤ 20
    slot_bound key None is = omega arith
    slot_bound key (Some right) is =
        cond_bound (test key right) (right_turns (is_posted posted key) right.state) (state_bound key right (is_posted posted key) right.state refl is)

    one : (key : Key) → key_turns rights posted test key ≤ 20
    one key = slot_bound key (fin.get rights key) refl
