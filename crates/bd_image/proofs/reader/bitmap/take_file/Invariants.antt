use Rattle.std.proofs.Common.{◌<◌, ◌↔◌, ◌⊎◌, ℕ}
use Rattle.std.specs.List.{Contains}
use Rattle.bd_image.specs.Checks.{blocks_before}
use Rattle.bd_image.specs.Sharing.{IsTakenIn}
use Rattle.bd_image.proofs.reader.bitmap.take_file.Given as goal

abbrev pub invariant-loop-e : goal.invariant-loop-e
invariant-loop-e l = (x : ℕ) → x < 32768 → IsTakenIn l.taken x ↔ (IsTakenIn l.initial.taken x ⊎ Contains (blocks_before l.bytes l.j l.e) x)
