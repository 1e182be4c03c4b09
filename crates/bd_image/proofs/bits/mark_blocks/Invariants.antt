use Rattle.std.proofs.Common.{◌≡◌, ℕ, ◌||◌, nat_eq, take}
use Rattle.std.specs.List.{list_any}
use Rattle.bd_base.specs.Bytes.{AreBytes}
use Rattle.bd_image.specs.Bits.{is_set}
use Rattle.bd_image.proofs.bits.mark_blocks.Given as goal

abbrev pub invariant-loop-block : goal.invariant-loop-block
invariant-loop-block l = record {
  marks : (y : ℕ) → is_set l.bits y ≡ (is_set l.initial.bits y || list_any (nat_eq y) (take l.block-index l.blocks));
  bytes : AreBytes l.initial.bits → AreBytes l.bits;
}
