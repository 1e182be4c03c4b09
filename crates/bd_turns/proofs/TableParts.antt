-- What is kept of the tables beside the store: marks of sweeps, and keys in which refused engines are.
use Rattle.std.proofs.Common.{◌≡◌, ◌≢◌, inl, inr, ℕ, zero, suc, ◌+◌, ◌<◌, cond, Bool, true, false, not, List, [], ◌∷◌, length, position, replicate, set, None, Some, is_some, arith, refl, sym, ap, ◌∙◌, subst}
use Rattle.std.specs.List.{list_any}
use Rattle.bd_entry.proofs.Holders.{is_some-position}
use Rattle.std.specs.FinMap as fin
use Rattle.std.specs.Cmp.{tied_itself}
use Rattle.std.specs.Ordering.{is_eq}
use Rattle.std.proofs.lemmas.Bool.{both_ways, cases_Bool, cond-true, false≢true}
use Rattle.std.proofs.lemmas.List.{length-replicate, length-set}
use Rattle.std.proofs.lemmas.List.Quantifiers.{position-Some}
use Rattle.std.proofs.lemmas.List.Sums.{sum_by-cons}
use Rattle.std.proofs.lemmas.Option.{none-some, same_Some}
use Rattle.bd_base.specs.declared.journal.Found.{Found}
use Rattle.bd_base.specs.declared.journal.Found.TheVariants.{NoDirectory}
use Rattle.bd_base.specs.declared.key.Key.{Key}
use Rattle.bd_base.specs.Keys.{key_cmp_total, same_key, same_key-is}
use Rattle.bd_lines.specs.declared.lines.TheConstants.{LINES}
use Rattle.bd_tables.specs.declared.request.Request.{Request}
use Rattle.bd_tables.specs.declared.state.Right.{Right}
use Rattle.bd_tables.specs.declared.state.RightState.{RightState}
use Rattle.bd_tables.specs.declared.state.RightState.TheVariants as states
use Rattle.bd_tables.specs.declared.state.Walk.{Walk}
use Rattle.bd_tables.specs.declared.state.Walk.TheVariants as walks
use Rattle.bd_tables.specs.Effects.{all_swept, attach_right, change, new_right, none_swept, sweep_state}
use Rattle.bd_tables.specs.Sound.{IsOpen, OnRight}
use Rattle.bd_tables.specs.State.{Rights, engines_in, is_in, walk_at}
use Rattle.bd_tables.proofs.Maps.{get-change, other_key, other_key-remove, same_key-insert, same_key-remove}

-- ---- marks of sweeps

-- a drained key has a mark for each line
abbrev pub HasMarks : Rights → Type 0
HasMarks rights = (key : Key) (right : Right) (swept : List Bool) → fin.get rights key ≡ Some right → right.state ≡ states.Drained swept →
    length swept ≡ LINES

-- the marks in a state
marks_in : RightState → List Bool → List Bool
marks_in states.On none = none
marks_in states.Cleared none = none
marks_in (states.Drained swept) none = swept

is_drained : RightState → Bool
is_drained states.On = false
is_drained states.Cleared = false
is_drained (states.Drained swept) = true

pub marks_attach : (rights : Rights) (key : Key) (file : ℕ) (write : Bool) → HasMarks rights → HasMarks (attach_right rights key file write)
unfolding is_drained
marks_attach rights key file write marks q right swept is drained = elim (cases_Bool (same_key q key)) [
  | inl same ↦
      let one : new_right file write ≡ right = same_Some (new_right file write) right
      (sym (ap (fin.get (attach_right rights key file write)) (same_key-is q key same)
      ∙ same_key-insert key_cmp_total rights key (new_right file write)) ∙ is) in
      absurd (false≢true (ap is_drained (ap (λ (r : Right). r.state) one ∙ drained)))
  | inr other ↦ marks q right swept (sym (other_key key_cmp_total rights key (new_right file write) q other) ∙ is) drained
]

pub marks_states : (rights : Rights) (key : Key) (f : RightState → RightState) →
    ((right : Right) (swept : List Bool) → fin.get rights key ≡ Some right → f right.state ≡ states.Drained swept → length swept ≡ LINES) →
    HasMarks rights → HasMarks (change rights key (λ right. record right { state = f right.state }))
marks_states rights key f own marks q right swept =
    get-change key_cmp_total rights key (λ right. record right { state = f right.state }) q
    (λ r. r ≡ Some right → right.state ≡ states.Drained swept → length swept ≡ LINES)
    (λ other is drained. marks q right swept is drained)
    (λ old at same is drained.
    own old swept at (ap (λ (r : Right). r.state) (same_Some (record old { state = f old.state }) right is) ∙ drained))
    (λ none is drained. marks q right swept is drained)

pub marks_remove : (rights : Rights) (key : Key) → HasMarks rights → HasMarks (fin.remove rights key)
marks_remove rights key marks q right swept is drained = elim (cases_Bool (same_key q key)) [
  | inl same ↦
      absurd (none-some right (sym (ap (fin.get (fin.remove rights key)) (same_key-is q key same) ∙ same_key-remove key_cmp_total rights key) ∙ is))
  | inr other ↦ marks q right swept (sym (other_key-remove key_cmp_total rights key q other) ∙ is) drained
]

-- a state that is not drained has no marks to say
pub cleared_marks : (swept : List Bool) → states.Cleared ≡ states.Drained swept → length swept ≡ LINES
unfolding is_drained
cleared_marks swept same = absurd (false≢true (ap is_drained same))

-- a key that was just drained has none of its lines swept
pub drained_marks : (swept : List Bool) → states.Drained none_swept ≡ states.Drained swept → length swept ≡ LINES
unfolding marks_in
drained_marks swept same =
    let is : none_swept ≡ swept = ap (λ (s : RightState). marks_in s []) same in
    ap length (sym is) ∙ length-replicate LINES false

-- a sweep marks a line
pub swept_marks : (rights : Rights) (key : Key) (line : ℕ) → HasMarks rights → (right : Right) (swept : List Bool) →
    fin.get rights key ≡ Some right → sweep_state line right.state ≡ states.Drained swept → length swept ≡ LINES
unfolding marks_in is_drained
swept_marks rights key line marks right swept attached same = by right.state refl same
  where
    by : (state : RightState) → right.state ≡ state → sweep_state line state ≡ states.Drained swept → length swept ≡ LINES
    by states.On is same = absurd (false≢true (ap is_drained same))
    by states.Cleared is same = absurd (false≢true (ap is_drained same))
    by (states.Drained was) is same =
        let new : set was line true ≡ swept = ap (λ (s : RightState). marks_in s []) same in
        ap length (sym new) ∙ length-set was line true ∙ marks key right was attached is

-- the next line to sweep is one of the lines
pub next_line : (swept : List Bool) (line : ℕ) → length swept ≡ LINES → position not swept ≡ Some line → line < LINES
next_line swept line size next =
    let found = position-Some not swept line false next in
    let within : line < length swept = found.0 in
    subst (λ (n : ℕ). line < n) size within

all_true : (swept : List Bool) → list_any not swept ≡ false → swept ≡ replicate (length swept) true
all_true [] none = refl
all_true (true ∷ rest) none = ap (λ (xs : List Bool). true ∷ xs) (all_true rest none)
all_true (false ∷ rest) none = absurd (both_ways true none refl)

-- where no line is left to sweep, all are swept
pub whole_marks : (swept : List Bool) → length swept ≡ LINES → position not swept ≡ None → swept ≡ all_swept
whole_marks swept size none =
    all_true swept (sym (is_some-position not swept) ∙ ap is_some none) ∙ ap (λ (n : ℕ). replicate n true) size

-- ---- keys in which refused engines are

-- an engine that was refused although it found its right is in a key that is attached and not drained
abbrev pub AreOpen : Rights → List Walk → Type 0
AreOpen rights all = (process : ℕ) (request : Request) (found : Found) → walk_at all process ≡ walks.Refused request found →
    found ≢ NoDirectory → OnRight (λ right. IsOpen right.state) (fin.get rights request.key)

-- what holds of an attached right holds of it after another was attached
pub on_attached : (rights : Rights) (key : Key) (right : Right) (q : Key) (P : Right → Type 0) → fin.get rights key ≡ None →
    OnRight P (fin.get rights q) → OnRight P (fin.get (fin.insert rights key right) q)
on_attached rights key right q P none on = elim (cases_Bool (same_key q key)) [
  | inl same ↦ absurd (subst (OnRight P) (ap (fin.get rights) (same_key-is q key same) ∙ none) on)
  | inr other ↦ subst (OnRight P) (sym (other_key key_cmp_total rights key right q other)) on
]

pub on_states : (rights : Rights) (key : Key) (f : RightState → RightState) (q : Key) (P : RightState → Type 0) →
    OnRight (λ right. P right.state) (fin.get rights q) →
    ((right : Right) → fin.get rights key ≡ Some right → q ≡ key → P right.state → P (f right.state)) →
    OnRight (λ right. P right.state) (fin.get (change rights key (λ right. record right { state = f right.state })) q)
on_states rights key f q P on own =
    get-change key_cmp_total rights key (λ right. record right { state = f right.state }) q (OnRight (λ right. P right.state))
    (λ other. on)
    (λ old at same.
    let here : fin.get rights q ≡ Some old = ap (fin.get rights) (same_key-is q key same) ∙ at in
    own old at (same_key-is q key same) (subst (OnRight (λ right. P right.state)) here on))
    (λ none. on)

-- what does not hold of the right that goes holds after it went
pub on_removed : (rights : Rights) (key q : Key) (P : Right → Type 0) → OnRight P (fin.get rights q) → ¬ OnRight P (fin.get rights key) →
    OnRight P (fin.get (fin.remove rights key) q)
on_removed rights key q P on never = elim (cases_Bool (same_key q key)) [
  | inl same ↦ absurd (never (subst (λ (k : Key). OnRight P (fin.get rights k)) (same_key-is q key same) on))
  | inr other ↦ subst (OnRight P) (sym (other_key-remove key_cmp_total rights key q other)) on
]

-- ---- engines in a key

mark_in : Key → Walk → ℕ
mark_in key walk = cond (is_in key walk) 1 0

engines-cons : (key : Key) (walk : Walk) (rest : List Walk) → engines_in (walk ∷ rest) key ≡ mark_in key walk + engines_in rest key
unfolding mark_in
engines-cons key walk rest = sum_by-cons (λ x. cond (is_in key x) 1 0) walk rest

mark_in-yes : (key : Key) (walk : Walk) → is_in key walk ≡ true → mark_in key walk ≡ 1
unfolding mark_in
mark_in-yes key walk inside = cond-true _ _ _ inside

-- where no engine is in a key each is out of it
nobody_in : (key : Key) (all : List Walk) (p : ℕ) → engines_in all key ≡ 0 → is_in key (walk_at all p) ≡ false
nobody_in key [] p none = refl
nobody_in key (w ∷ all) zero none = elim (cases_Bool (is_in key w)) [
  | inl inside ↦ absurd (omega (arith, engines-cons key w all, mark_in-yes key w inside, none))
  | inr outside ↦ outside
]
nobody_in key (w ∷ all) (suc p) none =
    let rest : engines_in all key ≡ 0 = omega (arith, engines-cons key w all, none) in
    nobody_in key all p rest

-- so no refused engine's key is that one
pub refused_elsewhere : (key : Key) (all : List Walk) (process : ℕ) (request : Request) (found : Found) → engines_in all key ≡ 0 →
    walk_at all process ≡ walks.Refused request found → request.key ≢ key
refused_elsewhere key all process request found none is same =
    let out : is_in key (walks.Refused request found) ≡ false = subst (λ (w : Walk). is_in key w ≡ false) is (nobody_in key all process none) in
    let self : same_key request.key key ≡ true = ap (λ (k : Key). same_key k key) same ∙ ap is_eq (tied_itself key_cmp_total key) in
    both_ways (same_key request.key key) out self
