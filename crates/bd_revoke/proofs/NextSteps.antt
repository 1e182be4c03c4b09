-- What the next steps of a revocation do, for tests that know its keys.
use Rattle.std.proofs.Common.{◌≡◌, ℕ, ◌+◌, ◌<◌, Bool, true, false, cond, List, [], ◌∷◌, ◌++◌, length, length-append, drop, refl, ap, sym, ◌∙◌, subst, arith}
use Rattle.std.specs.Prelude.{Contains, IfSome, Option, None, Some, nat_eq, slice_get}
use Rattle.std.specs.declared.cmp.Ordering.TheVariants.{Less}
use Rattle.std.proofs.lemmas.Bool.{cond-false, lt-ltb}
use Rattle.std.proofs.lemmas.Bool.Decides.{nat_tests}
use Rattle.std.proofs.lemmas.Option.{none-some, same_Some}
use Rattle.std.proofs.lemmas.Cmp.{eq_by_cmp_equiv}
use Rattle.bd_base.specs.declared.key.Key.{Key}
use Rattle.bd_base.specs.declared.limits.TheConstants.{POSTS}
use Rattle.bd_base.specs.Keys.{key_cmp, key_cmp_total, same_key}
use Rattle.bd_base.specs.declared.journal.At.{At}
use Rattle.bd_inval.specs.declared.inval.Post.{Post}
use Rattle.bd_revoke.specs.declared.turn.RevokeTurn.{RevokeTurn}
use Rattle.bd_revoke.specs.declared.turn.RevokeTurn.TheVariants.{Cleared, Detaching, Posted, QueueFull}
use Rattle.bd_revoke.specs.Revocation.{Revocation, first_to_clear, key_to_clear, without}
use Rattle.bd_revoke.specs.Turns.{after_turn, next_turn, posts_of, turn_of}

-- a list with a first key is not empty
pub first-some : (keys : List Key) (key : Key) → slice_get keys 0 ≡ Some key → 0 < length keys
first-some [] key first = absurd (none-some key first)
first-some (other ∷ keys) key first = omega arith

-- the first of the keys to be cleared is cleared where none is to be posted
pub next-clears : (to_post : Option Key) (to_clear waiting : List Key) (posts : ℕ) (key : Key) → slice_get to_clear 0 ≡ Some key → to_post ≡ None →
    turn_of to_post to_clear waiting posts ≡ Cleared key
next-clears None [] waiting posts key first none = absurd (none-some key first)
next-clears None (other ∷ keys) waiting posts key first none = ap Cleared (same_Some _ _ first)
next-clears (Some other) to_clear waiting posts key first none = absurd (none-some other (sym none))

-- a key that is to be posted is posted where there is room
pub next-posts : (key : Key) (to_clear waiting : List Key) (posts : ℕ) → posts < POSTS → turn_of (Some key) to_clear waiting posts ≡ Posted key
next-posts key to_clear waiting posts room = cond-false _ _ _ (full posts room)
  where
    full : (n : ℕ) → n < POSTS → nat_eq n POSTS ≡ false
    full n below = grind (arith, nat_tests)

-- a list without its first key
pub without-first : (key : Key) (keys : List Key) → without key (key ∷ keys) ≡ keys
without-first key keys =
    let same : same_key key key ≡ true = (eq_by_cmp_equiv key_cmp_total).refl key in
    simp same

-- a step waits for the detaching where all keys are posted
pub next-waits : (to_post : Option Key) (to_clear waiting : List Key) (posts : ℕ) → to_post ≡ None → to_clear ≡ [] →
    turn_of to_post to_clear waiting posts ≡ Detaching (length waiting)
next-waits to_post to_clear waiting posts none empty = λ i. turn_of (none i) (empty i) waiting posts

-- the key of a lower process goes first
pub less-process : (a b : Key) → a.process < b.process → key_cmp a b ≡ Less
less-process a b below = simp (lt-ltb a.process b.process below)

-- a key is cleared and then posted
module _ (r : Revocation) (key : Key) (next : slice_get r.to_clear 0 ≡ Some key) (none : r.to_post ≡ None) where
  pub clear_is_next : key_to_clear r ≡ Some key
  clear_is_next = ap (λ (o : Option Key). first_to_clear o r.to_clear) none ∙ next

  pub it_clears : (turn : RevokeTurn) (posts : ℕ) → turn ≡ next_turn r posts → turn ≡ Cleared key
  it_clears turn posts is = is ∙ next-clears r.to_post r.to_clear r.waiting posts key next none

  pub cleared : (turn : RevokeTurn) (posts : ℕ) → turn ≡ next_turn r posts → (after : Revocation) → after ≡ after_turn r turn →
      after ≡ record r { to_clear = drop 1 r.to_clear; to_post = Some key }
  cleared turn posts is after told = told ∙ ap (after_turn r) (it_clears turn posts is)

  pub nothing_posted : (turn : RevokeTurn) (posts : List Post) → turn ≡ next_turn r (length posts) → (by : At) (after : List Post) →
      after ≡ posts ++ posts_of turn by → length after ≡ length posts
  nothing_posted turn posts is by after told =
      ap length (told ∙ ap (λ (t : RevokeTurn). posts ++ posts_of t by) (it_clears turn (length posts) is)) ∙ (let e = length-append posts [] in omega (arith, e))

  pub it_posts : (middle : Revocation) → middle ≡ record r { to_clear = drop 1 r.to_clear; to_post = Some key } →
      (turn : RevokeTurn) (posts : ℕ) → posts < POSTS → turn ≡ next_turn middle posts → turn ≡ Posted key
  it_posts middle is turn posts room told =
      told ∙ ap (λ (m : Revocation). next_turn m posts) is ∙ next-posts key (drop 1 r.to_clear) r.waiting posts room

  pub posted : (middle : Revocation) → middle ≡ record r { to_clear = drop 1 r.to_clear; to_post = Some key } →
      (turn : RevokeTurn) → turn ≡ Posted key → (after : Revocation) → after ≡ after_turn middle turn →
      after ≡ record r { to_clear = drop 1 r.to_clear; to_post = None; waiting = r.waiting ++ key ∷ [] }
  posted middle is turn posts after told =
      told ∙ ap (after_turn middle) posts ∙ ap (λ (m : Revocation). after_turn m (Posted key)) is

-- a first and a second key are in their list
pub first-among : (first second : Key) → Contains (first ∷ second ∷ []) first
first-among first second = (0, omega arith, refl)

pub only-among : (key : Key) → Contains (key ∷ []) key
only-among key = (0, omega arith, refl)
