use Rattle.std.proofs.Common.{◌≡◌, ◌<◌, ℕ}
use Rattle.bd_image.specs.Layout.{byte_at, used_mark}
use Rattle.bd_image.specs.Rules.{IsInRest}
use Rattle.bd_image.proofs.reader.records.check_record_rests.Given as goal

abbrev pub invariant-loop-j : goal.invariant-loop-j
invariant-loop-j l = (i place : ℕ) → i < l.j → used_mark l.bytes i ≡ 1 → IsInRest l.bytes i place → byte_at l.bytes place ≡ 0
