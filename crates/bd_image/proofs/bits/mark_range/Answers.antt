use Rattle.std.proofs.Common.{Bool, eqb, ◌||◌, ap, ◌∙◌, arith}
use Rattle.bd_image.specs.Bits.{is_set}
use Rattle.bd_image.proofs.SetBits.{range-more}
use Rattle.bd_image.proofs.bits.mark_range.Goals as goal

pub loop-x-preserved : goal.loop-x-preserved
loop-x-preserved c = record {
  marks = λ y.
      c.mark.ensures.marks y ∙ ap (λ (b : Bool). b || eqb y c.loop-x.x) (c.loop-x.invariant.marks y)
      ∙ range-more (is_set c.args.bits.now y) y c.args.start c.loop-x.x (omega arith);
  bytes = λ are. c.mark.ensures.bytes (c.loop-x.invariant.bytes are);
}
