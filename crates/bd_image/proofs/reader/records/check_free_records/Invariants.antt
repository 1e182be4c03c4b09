use Rattle.std.proofs.Common.{◌≡◌, ◌+◌, ◌<◌, ◌≤◌, ℕ}
use Rattle.bd_image.specs.Layout.{byte_at, record_place, used_mark}
use Rattle.bd_image.proofs.reader.records.check_free_records.Given as goal

abbrev pub invariant-loop-j : goal.invariant-loop-j
invariant-loop-j l = (i place : ℕ) → i < l.j → used_mark l.bytes i ≡ 0 → record_place i ≤ place
    → place < record_place i + 256 → byte_at l.bytes place ≡ 0
