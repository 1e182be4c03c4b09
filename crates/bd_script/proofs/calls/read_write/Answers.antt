use Rattle.std.proofs.Common.{arith}
use Rattle.std.proofs.lemmas.Result.{err_from_is_err_and}
use Rattle.bd_script.proofs.NamedLines.{write-refused}
use Rattle.bd_script.proofs.calls.read_write.Goals as goal

pub returns-in_err-placed-clause-refused : goal.returns-in_err-placed-clause-refused
returns-in_err-placed-clause-refused c =
    let p = err_from_is_err_and c.from_residual.result c.from_residual.ensures.1 in
    rw (p.1, p.2) (write-refused _ _ (λ n small. (omega arith, omega arith))
    (λ n small. (omega arith, omega arith)) c.args.rest.now c.in_err-placed.field-0.0 c.in_err-placed.ensures.refused)
