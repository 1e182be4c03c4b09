use Rattle.std.proofs.Common.{arith}
use Rattle.std.proofs.lemmas.Result.{err_from_is_err_and}
use Rattle.bd_script.proofs.NumberLines.{truncate-refused}
use Rattle.bd_script.proofs.calls.read_truncate.Goals as goal

pub returns-in_err-fd-clause-refused : goal.returns-in_err-fd-clause-refused
returns-in_err-fd-clause-refused c =
    let p = err_from_is_err_and c.from_residual.result c.from_residual.ensures.1 in
    rw (p.1, p.2) (truncate-refused _ _ (λ n small. (omega arith, omega arith))
    (λ n small. (omega arith, omega arith)) c.args.rest.now c.in_err-fd.field-0.0 c.in_err-fd.ensures.refused)
