use Rattle.std.proofs.Common.{◌≡◌, ◌<◌, ℕ}
use Rattle.bd_image.specs.Layout.{extent_count, used_mark}
use Rattle.bd_image.specs.Checks.{IsInside}
use Rattle.bd_image.proofs.reader.extents.check_extent_ranges.Given as goal

abbrev pub invariant-loop-j : goal.invariant-loop-j
invariant-loop-j l = (i d : ℕ) → i < l.j → used_mark l.bytes i ≡ 1 → d < extent_count l.bytes i → IsInside l.bytes i d
