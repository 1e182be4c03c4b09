-- The laws of revocations, by their stages.
use Rattle.std.proofs.Common.{◌≡◌, ℕ, ◌+◌, ◌<◌, Bool, true, false, not, cond, List, [], ◌∷◌, ◌++◌, length, take, drop, refl, ap, sym, ◌∙◌, arith, append_assoc, length-append}
use Rattle.std.specs.Prelude.{◌↔◌, Contains, Option, None, Some, IsSome, nat_eq}
use Rattle.std.specs.List.{position_or_len}
use Rattle.std.specs.Option.{option_to_list}
use Rattle.std.proofs.lemmas.List.{append-nil, take-append-le, drop-append-le}
use Rattle.std.proofs.lemmas.List.Folds.{prefix_len-append}
use Rattle.std.proofs.lemmas.Bool.{eqb-true}
use Rattle.bd_base.specs.declared.journal.At.{At}
use Rattle.bd_base.specs.declared.key.Key.{Key}
use Rattle.bd_base.specs.Keys.{same_key}
use Rattle.bd_base.specs.declared.limits.TheConstants.{POSTS}
use Rattle.bd_revoke.specs.declared.turn.RevokeTurn.TheVariants.{Posted, QueueFull, Detaching}
use Rattle.bd_revoke.specs.Revocation.{Revocation, keys_left, left_of, counted_off, without}
use Rattle.bd_revoke.specs.Turns.{after_turn, next_turn, turn_of}
use Rattle.bd_revoke.specs.Laws.{AreAllPosted}
use Rattle.bd_revoke.proofs.Moves.{position_or_len-Contains}

-- ---- where a step waits

post_waits : (key : Key) (posts : ℕ) (b : Bool) → nat_eq posts POSTS ≡ b →
    (cond b (QueueFull POSTS) (Posted key) ≡ QueueFull POSTS) ↔ (IsSome (Some key) × (posts ≡ POSTS))
post_waits key posts true same = (λ full. (refl, eqb-true posts POSTS same), λ room. refl)
post_waits key posts false other = (λ full. cc, λ room. grind (arith, other, room.1))

pub waits_for_room : (to_post : Option Key) (to_clear waiting : List Key) (posts : ℕ) →
    (turn_of to_post to_clear waiting posts ≡ QueueFull POSTS) ↔ (IsSome to_post × (posts ≡ POSTS))
waits_for_room None [] waiting posts = (λ full. cc, λ room. let no : false ≡ true = room.0 in cc)
waits_for_room None (key ∷ keys) waiting posts = (λ full. cc, λ room. let no : false ≡ true = room.0 in cc)
waits_for_room (Some key) to_clear waiting posts = post_waits key posts (nat_eq posts POSTS) refl

-- the revocation with these stages
abbrev pub with_stages : List Key → Option Key → List Key → At → Revocation
with_stages to_clear to_post waiting by =
    record { to_clear = to_clear; to_post = to_post; waiting = waiting; by = by }

post_never_detaches : (key : Key) (left : ℕ) (b : Bool) →
    cond b (QueueFull POSTS) (Posted key) ≡ Detaching left → false ≡ true
post_never_detaches key left true is = cc
post_never_detaches key left false is = cc

pub waits_for_detaching : (to_clear : List Key) (to_post : Option Key) (waiting : List Key) (by : At) (posts left : ℕ) →
    (turn_of to_post to_clear waiting posts ≡ Detaching left)
    ↔ (AreAllPosted (with_stages to_clear to_post waiting by) × (left ≡ left_of (with_stages to_clear to_post waiting by)))
waits_for_detaching [] None waiting by posts left = (
  λ is.
      let same : length waiting ≡ left = cc in
      (record { none_to_post = refl; none_to_clear = refl }, omega (arith, same)),
  λ all. ap Detaching (omega (arith, all.1)),
)
waits_for_detaching (key ∷ keys) None waiting by posts left =
    (λ is. cc, λ all. let no : key ∷ keys ≡ [] = all.0.none_to_clear in cc)
waits_for_detaching to_clear (Some key) waiting by posts left = (
  λ is. let no : false ≡ true = post_never_detaches key left (nat_eq posts POSTS) is in cc,
  λ all. let no : Some key ≡ None = all.0.none_to_post in cc,
)

-- ---- no key is lost

pub left-counted : (r : Revocation) → left_of r ≡ length (keys_left r)
left-counted r =
    omega (arith, length-append (r.waiting ++ option_to_list r.to_post) r.to_clear, length-append r.waiting (option_to_list r.to_post))

post_keeps : (key : Key) (to_clear waiting : List Key) (by : At) (b : Bool) →
    let r : Revocation = with_stages to_clear (Some key) waiting by in
    keys_left (after_turn r (cond b (QueueFull POSTS) (Posted key))) ≡ keys_left r
post_keeps key to_clear waiting by true = refl
post_keeps key to_clear waiting by false = ap (λ keys. keys ++ to_clear) (append-nil (waiting ++ key ∷ []))

pub step_keeps : (to_clear : List Key) (to_post : Option Key) (waiting : List Key) (by : At) (posts : ℕ) →
    let r : Revocation = with_stages to_clear to_post waiting by in
    keys_left (after_turn r (next_turn r posts)) ≡ keys_left r
step_keeps [] None waiting by posts = refl
step_keeps (key ∷ keys) None waiting by posts =
    append_assoc waiting (key ∷ []) keys ∙ sym (ap (λ front. front ++ key ∷ keys) (append-nil waiting))
step_keeps to_clear (Some key) waiting by posts = post_keeps key to_clear waiting by (nat_eq posts POSTS)

-- where the first item that passes stands in front, it is the first of all
position_or_len-append : {X : Type 0} (p : X → Bool) (xs ys : List X) → position_or_len p xs < length xs →
    position_or_len p (xs ++ ys) ≡ position_or_len p xs
position_or_len-append p xs ys within = grind (arith, prefix_len-append (λ x. not (p x)) xs ys, within)

-- a key that stands in front is taken out there
without-append : (key : Key) (front back : List Key) → Contains front key → without key (front ++ back) ≡ without key front ++ back
without-append key front back found =
    let same : Key → Bool = λ other. same_key other key in
    let i : ℕ = position_or_len same front in
    let within : i < length front = position_or_len-Contains key front found in
    let place : position_or_len same (front ++ back) ≡ i = position_or_len-append same front back within in
    ap (λ n. take n (front ++ back) ++ drop (n + 1) (front ++ back)) place
    ∙ ap (λ before. before ++ drop (i + 1) (front ++ back)) (take-append-le i front back (omega (arith, within)))
    ∙ ap (λ after. take i front ++ after) (drop-append-le (i + 1) front back (omega (arith, within)))
    ∙ sym (append_assoc (take i front) (drop (i + 1) front) back)

pub off_takes_one : (r : Revocation) (key : Key) → Contains r.waiting key →
    keys_left (counted_off r key) ≡ without key (keys_left r)
off_takes_one r key found =
    let next : List Key = option_to_list r.to_post in
    append_assoc (without key r.waiting) next r.to_clear
    ∙ sym (without-append key r.waiting (next ++ r.to_clear) found)
    ∙ ap (without key) (sym (append_assoc r.waiting next r.to_clear))
