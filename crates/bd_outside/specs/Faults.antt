-- Counts of faults.
use Rattle.std.specs.Prelude.{◌≡◌, ◌⊎◌, ℕ, ◌+◌, ◌-◌, ◌^◌, ◌<◌, min, Option, Some}

-- the count rose from old to new, or new is the last value that it can have
abbrev pub Rose : Option ℕ → ℕ → ℕ → Type 0
Rose last old new = (old < new) ⊎ (last ≡ Some new)

-- a count of 64 bits after one more fault: it stays at its last value
abbrev pub one_more : ℕ → ℕ
one_more count = min (count + 1) (2 ^ 64 - 1)
