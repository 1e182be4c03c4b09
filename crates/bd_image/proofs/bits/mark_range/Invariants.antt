use Rattle.std.proofs.Common.{◌≡◌, ℕ, ◌-◌, ◌||◌, nat_eq}
use Rattle.std.specs.List.{list_any, range_with_len}
use Rattle.bd_base.specs.Bytes.{AreBytes}
use Rattle.bd_image.specs.Bits.{is_set}
use Rattle.bd_image.proofs.bits.mark_range.Given as goal

abbrev pub invariant-loop-x : goal.invariant-loop-x
invariant-loop-x l = record {
  marks : (y : ℕ) → is_set l.bits y ≡ (is_set l.initial.bits y || list_any (nat_eq y) (range_with_len l.start (l.x - l.start)));
  bytes : AreBytes l.initial.bits → AreBytes l.bits;
}
