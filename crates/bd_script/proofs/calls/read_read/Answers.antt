use Rattle.std.proofs.Common.{arith}
use Rattle.std.proofs.lemmas.Result.{err_from_is_err_and}
use Rattle.bd_script.proofs.NumberLines.{read-refused}
use Rattle.bd_script.proofs.calls.read_read.Goals as goal

pub returns-in_err-numbers-clause-refused : goal.returns-in_err-numbers-clause-refused
returns-in_err-numbers-clause-refused c =
    let p = err_from_is_err_and c.from_residual.result c.from_residual.ensures.1 in
    rw (p.1, p.2) (read-refused _ _ _ (λ n small. (omega arith, omega arith)) (λ n small. (omega arith, omega arith))
    (λ n some small. (omega arith, omega arith)) c.args.rest.now c.in_err-numbers.field-0.0 c.in_err-numbers.ensures.refused)
