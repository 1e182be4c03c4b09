-- The numbers that calls are drawn from.
use Rattle.std.specs.Prelude.{ℕ, zero, suc, ◌+◌, ◌*◌, ◌%◌, ◌^◌}

-- the number that is drawn after this one
unfoldable pub next_number : ℕ → ℕ
next_number x = (x * 6364136223846793005 + 1442695040888963407) % 2 ^ 64

-- the last of so many numbers that are drawn after this one; it itself where none is drawn
unfoldable pub number_after : ℕ → ℕ → ℕ
number_after x zero = x
number_after x (suc draws) = next_number (number_after x draws)
