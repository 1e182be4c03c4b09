use Rattle.std.proofs.Common.{◌≡◌, ◌<◌, ◌≤◌, ℕ}
use Rattle.bd_image.specs.Layout.{perms_at, used_mark}
use Rattle.bd_image.proofs.reader.records.check_perms.Given as goal

abbrev pub invariant-loop-j : goal.invariant-loop-j
invariant-loop-j l = (i : ℕ) → i < l.j → used_mark l.bytes i ≡ 1 → perms_at l.bytes i ≤ 15
