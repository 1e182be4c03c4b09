use Rattle.std.proofs.Common.{◌-◌, arith}
use Rattle.bd_base.specs.declared.limits.TheConstants.{PROCESSES}
use Rattle.bd_blocks.specs.Texts.{before, number_text}
use Rattle.bd_blocks.proofs.Spellings.{after-first}
use Rattle.bd_entry.specs.Reading.{IsUpTo}
use Rattle.bd_entry.proofs.Fields.{upto-field}
use Rattle.bd_entry.proofs.read.front_at.Goals as goal

pub returns-in_err-call-clause-none : goal.returns-in_err-call-clause-none
returns-in_err-call-clause-none c =
    rw c.from_residual-in_err-call.ensures
    (λ at rest is same. c.in_err-call.ensures.none at.call rest (omega (arith, is.call))
    (after-first number_text (IsUpTo (PROCESSES - 1)) (upto-field (PROCESSES - 1)) c.in_ok-process.process at.process c.args.text.now
    c.in_ok-process.rest.now (before (number_text at.call) rest) c.in_ok-process.ensures.some.0 (omega (arith, is.process))
    c.in_ok-process.ensures.some.1 same))
