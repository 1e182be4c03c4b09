use Rattle.std.proofs.Common.{◌≡◌, ◌<◌, ◌≤◌, ℕ}
use Rattle.bd_image.specs.Layout.{extent_count, used_mark}
use Rattle.bd_image.proofs.reader.records.check_extent_counts.Given as goal

abbrev pub invariant-loop-j : goal.invariant-loop-j
invariant-loop-j l = (i : ℕ) → i < l.j → used_mark l.bytes i ≡ 1 → extent_count l.bytes i ≤ 24
