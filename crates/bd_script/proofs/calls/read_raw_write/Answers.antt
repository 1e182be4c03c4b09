use Rattle.std.proofs.Common.{ℕ, List, ◌++◌, ap, arith}
use Rattle.std.specs.Prelude.{codes}
use Rattle.bd_base.specs.declared.script.Call.TheVariants.{RawWrite}
use Rattle.bd_script.specs.Texts.{CallForm}
use Rattle.std.proofs.lemmas.Result.{err_from_is_err_and}
use Rattle.bd_script.proofs.NamedLines.{raw_write-refused}
use Rattle.bd_script.proofs.calls.read_raw_write.Goals as goal

pub returns-in_err-placed-clause-refused : goal.returns-in_err-placed-clause-refused
returns-in_err-placed-clause-refused c =
    let p = err_from_is_err_and c.from_residual.result c.from_residual.ensures.1 in
    rw (p.1, p.2) (raw_write-refused _ _ (λ n small. (omega arith, omega arith))
    (λ n small. (omega arith, omega arith)) c.args.rest.now c.in_err-placed.field-0.0 c.in_err-placed.ensures.refused)

pub returns-then-placed-len-clause-refused : goal.returns-then-placed-len-clause-refused
returns-then-placed-len-clause-refused c =
    let placed = c.in_ok-placed.placed in
    let parts = c.in_ok-placed.ensures in (
      CallForm (RawWrite placed.first placed.second placed.bytes),
      parts.fits.0,
      ap (λ (l : List ℕ). codes "raw-write " ++ l) parts.text,
      λ call. omega (arith, call.1, call.2.2, c.if-placed-len.true, c.len.ensures),
    )
