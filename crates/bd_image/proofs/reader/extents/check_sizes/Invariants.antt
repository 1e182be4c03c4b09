use Rattle.std.proofs.Common.{◌≡◌, ◌<◌, ◌≤◌, ℕ, length}
use Rattle.bd_base.specs.Files.{blocks_for}
use Rattle.bd_base.specs.declared.limits.TheConstants.{FILE_SIZE}
use Rattle.bd_image.specs.Layout.{blocks_in_image, size_in_image, used_mark}
use Rattle.bd_image.proofs.reader.extents.check_sizes.Given as goal

abbrev pub invariant-loop-j : goal.invariant-loop-j
invariant-loop-j l = (i : ℕ) → i < l.j → used_mark l.bytes i ≡ 1 → (size_in_image l.bytes i ≤ FILE_SIZE)
    × (length (blocks_in_image l.bytes i) ≡ blocks_for (size_in_image l.bytes i))
