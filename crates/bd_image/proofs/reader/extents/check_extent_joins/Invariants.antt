use Rattle.std.proofs.Common.{◌≡◌, ◌<◌, ℕ}
use Rattle.bd_image.specs.Layout.{extent_count, used_mark}
use Rattle.bd_image.specs.Checks.{HasNoJoin}
use Rattle.bd_image.proofs.reader.extents.check_extent_joins.Given as goal

abbrev pub invariant-loop-j : goal.invariant-loop-j
invariant-loop-j l = (i : ℕ) → i < l.j → used_mark l.bytes i ≡ 1 → HasNoJoin l.bytes i (extent_count l.bytes i)
