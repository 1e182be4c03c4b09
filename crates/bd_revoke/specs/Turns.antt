-- What a step of a revocation answers, and what it does.
use Rattle.std.specs.Prelude.{ℕ, nat_eq, cond, Option, None, Some, List, [], ◌∷◌, ◌++◌, drop, length}
use Rattle.bd_base.specs.declared.journal.At.{At}
use Rattle.bd_base.specs.declared.key.Key.{Key}
use Rattle.bd_inval.specs.declared.inval.Post.{Post}
use Rattle.bd_base.specs.declared.limits.TheConstants.{POSTS}
use Rattle.bd_tables.specs.declared.state.RightState.TheVariants.{Cleared as IsInCleared}
use Rattle.bd_tables.specs.Kernel.{KernelState, key_in_state}
use Rattle.bd_revoke.specs.declared.turn.RevokeTurn.{RevokeTurn}
use Rattle.bd_revoke.specs.declared.turn.RevokeTurn.TheVariants.{Cleared, Posted, QueueFull, Detaching}
use Rattle.bd_revoke.specs.Revocation.{Revocation}

-- a key that is to be posted is posted where there is room; else the next key is cleared; else it waits for the others
abbrev pub turn_of : Option Key → List Key → List Key → ℕ → RevokeTurn
turn_of (Some key) to_clear waiting posts = cond (nat_eq posts POSTS) (QueueFull POSTS) (Posted key)
turn_of None (key ∷ keys) waiting posts = Cleared key
turn_of None [] waiting posts = Detaching (length waiting)

-- the answer of a step, with so many requests posted
abbrev pub next_turn : Revocation → ℕ → RevokeTurn
next_turn r posts = turn_of r.to_post r.to_clear r.waiting posts

-- the revocation after a step with this answer
abbrev pub after_turn : Revocation → RevokeTurn → Revocation
after_turn r (Cleared key) = record r { to_clear = drop 1 r.to_clear; to_post = Some key }
after_turn r (Posted key) = record r { to_post = None; waiting = r.waiting ++ key ∷ [] }
after_turn r (QueueFull posts) = r
after_turn r (Detaching left) = r

-- what a step with this answer posts
abbrev pub posts_of : RevokeTurn → At → List Post
posts_of (Cleared key) by = []
posts_of (Posted key) by = record { key = key; by = by } ∷ []
posts_of (QueueFull posts) by = []
posts_of (Detaching left) by = []

-- the rights after a step with this answer: the key that it cleared is Cleared
abbrev pub kernel_after : RevokeTurn → KernelState → KernelState
kernel_after (Cleared key) kernel = key_in_state kernel key IsInCleared
kernel_after (Posted key) kernel = kernel
kernel_after (QueueFull posts) kernel = kernel
kernel_after (Detaching left) kernel = kernel
