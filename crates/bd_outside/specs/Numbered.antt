-- Calls that are numbered from 0, and the numbers of those that are to fail.
use Rattle.std.specs.Prelude.{ℕ, ◌+◌, ◌^◌, nat_eq, nat_lt, Bool, true, false, cond, List, Option, None, Some, count_by}
use Rattle.std.specs.List.{list_any}

-- the number of the next call, None where the numbers are spent, and the numbers of the calls that fail
pub record Calls : Type 0 where
  pub next : Option ℕ
  pub fails : List ℕ

-- whether the call of this number is one that fails
abbrev pub fails_at : Option ℕ → List ℕ → Bool
fails_at None fails = false
fails_at (Some n) fails = list_any (λ m. nat_eq m n) fails

-- whether the next call is one that fails
abbrev pub fails_now : Calls → Bool
fails_now calls = fails_at calls.next calls.fails

-- the number of the call after this one: a number has 64 bits
abbrev pub next_number : Option ℕ → Option ℕ
next_number None = None
next_number (Some n) = cond (nat_lt (n + 1) (2 ^ 64)) (Some (n + 1)) None

-- whether the call of this number came before the next one; where the numbers are spent, each call has
abbrev pub is_before : Option ℕ → ℕ → Bool
is_before None m = true
is_before (Some n) m = nat_lt m n

-- how many of the named calls have failed so far
abbrev pub faults_before : Calls → ℕ
faults_before calls = count_by (is_before calls.next) calls.fails
