-- How the attached rights are kept.
use Rattle.std.specs.Prelude.{◌≡◌, ℕ, ◌*◌, ◌<◌, Option, List, length}
use Rattle.std.proofs.Common.{get_or}
use Rattle.bd_base.specs.declared.key_list.TheConstants.{MOST_KEYS}
use Rattle.bd_base.specs.declared.limits.TheConstants.{FILES, PARTS}
use Rattle.bd_base.specs.Keys.{key_cmp, key_of, pair_of}
use Rattle.bd_base.specs.Slots.{slots_map}
use Rattle.bd_tables.specs.declared.state.Right.{Right}
use Rattle.bd_tables.specs.State.{Rights, users}

-- the rights by the numbers of their keys
abbrev pub rights_of : List (Option Right) → Rights
rights_of rights = slots_map key_cmp key_of rights

-- each key has its place, and of each pair it is counted how many keys use it
pub record IsRightMap (rights : List (Option Right)) (counts : List ℕ) : Type 0 where
  pub keys : length rights ≡ MOST_KEYS
  pub pairs : length counts ≡ FILES * PARTS
  pub counted : (n : ℕ) → n < FILES * PARTS → get_or counts n 0 ≡ users (rights_of rights) (pair_of n)
