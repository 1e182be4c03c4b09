use Rattle.std.proofs.Common.{◌+◌, arith}
use Rattle.bd_base.specs.declared.script.Call.TheVariants.{RawRead}
use Rattle.bd_script.specs.Texts.{CallForm}
use Rattle.std.proofs.lemmas.Result.{err_from_is_err_and}
use Rattle.bd_script.proofs.NumberLines.{raw_read-refused, raw_read-text}
use Rattle.bd_script.proofs.calls.read_raw_read.Goals as goal

pub returns-in_err-numbers-clause-refused : goal.returns-in_err-numbers-clause-refused
returns-in_err-numbers-clause-refused c =
    let p = err_from_is_err_and c.from_residual.result c.from_residual.ensures.1 in
    rw (p.1, p.2) (raw_read-refused _ _ _ (λ n small. (omega arith, omega arith)) (λ n small. (omega arith, omega arith))
    (λ n some small. (omega arith, omega arith)) c.args.rest.now c.in_err-numbers.field-0.0 c.in_err-numbers.ensures.refused)

pub returns-in_default-new-clause-refused : goal.returns-in_default-new-clause-refused
returns-in_default-new-clause-refused c =
    let numbers = c.in_ok-numbers.ensures.ok in (
      CallForm (RawRead c.in_ok-numbers.numbers.first
          (record { lo = c.in_ok-numbers.numbers.second; hi = c.in_ok-numbers.numbers.second + c.in_ok-numbers.numbers.third })),
      omega arith,
      raw_read-text c.args.rest.now c.in_ok-numbers.numbers.first c.in_ok-numbers.numbers.second c.in_ok-numbers.numbers.third numbers.0,
      λ call. let no : ⊥ = grind (arith, c.in_default-new.ensures.range, call.1, call.2) in no,
    )
