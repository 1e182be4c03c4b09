use Rattle.std.proofs.Common.{ap, subst, refl, inl, inr, Err, arith}
use Rattle.bd_outside.specs.declared.whole.ReadError.{ReadError}
use Rattle.bd_top.proofs.inputs.read_script.Goals as goal

pub returns-in-Err-TooLong-clause-err : goal.returns-in-Err-TooLong-clause-err
returns-in-Err-TooLong-clause-err g c =
    let past = c.in-Err-TooLong.ensures.too_long (ap (λ (e : ReadError). Err e) c.in-Err-TooLong.field-0-is) in
    record { bytes = past.0; read = inr past.1; bad = inl (omega (arith, past.1.1), refl, refl) }
