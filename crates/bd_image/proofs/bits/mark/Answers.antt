use Rattle.std.proofs.Common.{arith}
use Rattle.bd_image.proofs.SetBits.{AreBytes-mark, is_set-mark}
use Rattle.bd_image.proofs.bits.mark.Goals as goal

pub returns : goal.returns
returns c = record {
  marks = λ y. is_set-mark c.args.bits.now c.args.x y (omega arith);
  bytes = λ are. AreBytes-mark c.args.bits.now c.args.x (omega arith) are;
}
