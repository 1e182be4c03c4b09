-- How a revocation keeps its keys: in one array, the detached ones first and those to be cleared last.
use Rattle.std.specs.Prelude.{◌≡◌, ◌+◌, ◌≤◌, nat_lt, cond, Option, None, length, slice_get, slice_range}
use Rattle.bd_base.specs.declared.key.Key.{Key}
use Rattle.bd_base.specs.declared.key_list.TheConstants.{MOST_KEYS}
use Rattle.bd_revoke.specs.Revocation.{Revocation}
use Rattle.bd_revoke.specs.declared.revoke.Revoke.TheInside.{Inside}

-- the key that is cleared and not posted
abbrev pub cleared_key : Inside → Option Key
cleared_key a = cond (nat_lt a.posted a.cleared) (slice_get a.keys a.posted) None

-- the keys by their stage
abbrev pub revocation : Inside → Revocation
revocation a =
    record {
      to_clear = slice_range a.keys a.cleared a.count;
      to_post = cleared_key a;
      waiting = slice_range a.keys a.detached a.posted;
      by = a.by;
    }

-- the stages stand in order, and at most one key is cleared and not posted
pub record AreInOrder (a : Inside) : Type 0 where
  pub room : length a.keys ≡ MOST_KEYS
  pub detached : a.detached ≤ a.posted
  pub posted : a.posted ≤ a.cleared
  pub at_most_one : a.cleared ≤ a.posted + 1
  pub cleared : a.cleared ≤ a.count
  pub count : a.count ≤ MOST_KEYS
