-- What holds of every revocation.
use Rattle.std.specs.Prelude.{◌≡◌, ℕ, ◌↔◌, Contains, None, IsSome, [], length}
use Rattle.bd_base.specs.declared.key.Key.{Key}
use Rattle.bd_base.specs.declared.limits.TheConstants.{POSTS}
use Rattle.bd_revoke.specs.declared.turn.RevokeTurn.TheVariants.{QueueFull, Detaching}
use Rattle.bd_revoke.specs.Revocation.{Revocation, counted_off, keys_left, left_of, without}
use Rattle.bd_revoke.specs.Turns.{after_turn, next_turn}

-- a step waits for room exactly where a key is to be posted and as many requests are posted as there may be
abbrev pub WaitsForRoom : Type 0
WaitsForRoom =
    (r : Revocation) (posts : ℕ) →
    (next_turn r posts ≡ QueueFull POSTS) ↔ (IsSome r.to_post × (posts ≡ POSTS))

-- all keys of a revocation are posted
pub record AreAllPosted (r : Revocation) : Type 0 where
  pub none_to_post : r.to_post ≡ None
  pub none_to_clear : r.to_clear ≡ []

-- a step waits for the detaching exactly where all keys are posted, and tells how many are not yet detached
abbrev pub WaitsForDetaching : Type 0
WaitsForDetaching =
    (r : Revocation) (posts left : ℕ) →
    (next_turn r posts ≡ Detaching left) ↔ (AreAllPosted r × (left ≡ left_of r))

-- as many keys are left as are not yet detached
abbrev pub LeftAreCounted : Type 0
LeftAreCounted = (r : Revocation) → left_of r ≡ length (keys_left r)

-- a step keeps the keys that are not yet detached, and their order
abbrev pub StepsKeepKeys : Type 0
StepsKeepKeys = (r : Revocation) (posts : ℕ) → keys_left (after_turn r (next_turn r posts)) ≡ keys_left r

-- counting off a key that waits takes out that key alone
abbrev pub CountingOffTakesOne : Type 0
CountingOffTakesOne =
    (r : Revocation) (key : Key) → Contains r.waiting key →
    keys_left (counted_off r key) ≡ without key (keys_left r)
