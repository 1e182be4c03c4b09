use Rattle.std.proofs.Common.{ap, subst, inl, inr, Err, arith}
use Rattle.bd_outside.specs.declared.whole.ReadError.{ReadError}
use Rattle.bd_image.specs.Refusals.{RefusesBytesOfImage}
use Rattle.bd_image.proofs.LongImages.{too_long}
use Rattle.bd_top.proofs.inputs.read_image.Goals as goal

pub returns-in-Err-TooLong-clause-err : goal.returns-in-Err-TooLong-clause-err
returns-in-Err-TooLong-clause-err g c =
    let past = c.in-Err-TooLong.ensures.too_long (ap (λ (e : ReadError). Err e) c.in-Err-TooLong.field-0-is) in
    record { bytes = past.0; read = inr past.1; broken = rw c.number.ensures (too_long past.0 (omega (arith, past.1.1))) }

pub returns-in-Err-BadImage-clause-err : goal.returns-in-Err-BadImage-clause-err
returns-in-Err-BadImage-clause-err g c =
    record {
      bytes = c.in-Ok.bytes;
      read = inl (c.in-Ok.ensures.all, c.in-Ok.ensures.within);
      broken = subst (RefusesBytesOfImage c.in-Ok.bytes) c.in-Err-BadImage.field-0-is c.in-Err-BadImage.ensures.refused;
    }
