-- Which process holds a file.
use Rattle.std.specs.Prelude.{◌≡◌, ℕ, ◌≤◌, nat_eq, Bool, false, Option, List, length, position}
use Rattle.std.specs.Option.{option_map_or}
use Rattle.bd_base.specs.declared.limits.TheConstants.{PROCESSES}
use Rattle.bd_kernel.specs.Changes.{Rows}

-- the descriptors of each process, and the file that each holds
pub record Table : Type 0 where
  pub rows : Rows
  pub held : List (Option ℕ)

-- whether this is the file that is held
abbrev pub does_hold : ℕ → Option ℕ → Bool
does_hold file held = option_map_or (nat_eq file) held false

-- the least process that holds the file
abbrev pub holder_in : List (Option ℕ) → ℕ → Option ℕ
holder_in held file = position (does_hold file) held

-- each process may hold a file, and there are not too many
pub record HaveHolds (rows : Rows) (held : List (Option ℕ)) : Type 0 where
  pub each : length held ≡ length rows
  pub few : length held ≤ PROCESSES
