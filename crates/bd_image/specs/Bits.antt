-- Bitmaps: bit x mod 8 of byte x / 8 says something of block x.
use Rattle.std.specs.Prelude.{ℕ, ◌/◌, ◌%◌, ◌^◌, nat_eq, Bool, List, slice_index}

-- whether the bit of block x is set
abbrev pub is_set : List ℕ → ℕ → Bool
is_set bits x = nat_eq (slice_index bits (x / 8) / 2 ^ (x % 8) % 2) 1
