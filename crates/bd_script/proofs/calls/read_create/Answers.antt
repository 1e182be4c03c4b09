use Rattle.std.proofs.Common.{arith}
use Rattle.std.proofs.lemmas.Result.{err_from_is_err_and}
use Rattle.bd_script.proofs.NamedLines.{create-refused}
use Rattle.bd_script.proofs.calls.read_create.Goals as goal

pub returns-in_err-name-clause-refused : goal.returns-in_err-name-clause-refused
returns-in_err-name-clause-refused c =
    let p = err_from_is_err_and c.from_residual.result c.from_residual.ensures.1 in
    rw (p.1, p.2) (create-refused _ (λ n small. (omega arith, omega arith)) c.args.rest.now c.in_err-name.field-0.0 c.in_err-name.ensures.refused)
