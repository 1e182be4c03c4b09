-- The cells before this one are there.
use Rattle.std.proofs.Common.{◌≡◌, ℕ, ◌<◌, None, length, get_or}
use Rattle.std.specs.List.{slice_get}
use Rattle.bd_file_table.proofs.pool.fill_up.Given as goal

abbrev pub invariant-loop-i : goal.invariant-loop-i
invariant-loop-i l = record { wide : length l.all ≡ 512; there : (k : ℕ) → k < l.i → get_or l.all k None ≡ slice_get l.cells k }
