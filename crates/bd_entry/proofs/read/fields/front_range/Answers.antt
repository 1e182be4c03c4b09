use Rattle.std.proofs.Common.{List, ℕ, ap, ◌∙◌, arith}
use Rattle.bd_base.specs.declared.limits.TheConstants.{BLOCK_SIZE}
use Rattle.bd_blocks.specs.Texts.{before, number_text}
use Rattle.bd_blocks.proofs.Spellings.{after-first}
use Rattle.bd_entry.specs.Reading.{IsUpTo}
use Rattle.bd_entry.proofs.Fields.{no-range, upto-field}
use Rattle.bd_entry.proofs.read.fields.front_range.Goals as goal

pub returns-in_err-hi-clause-none : goal.returns-in_err-hi-clause-none
returns-in_err-hi-clause-none c =
    let first = c.in_ok-lo.ensures.some in
    rw c.from_residual-in_err-hi.ensures
    (λ r rest is same. c.in_err-hi.ensures.none r.hi rest is.1
    (after-first number_text (IsUpTo BLOCK_SIZE) (upto-field BLOCK_SIZE) c.in_ok-lo.lo r.lo c.args.text.now c.in_ok-lo.rest.now
    (before (number_text r.hi) rest) first.0 (omega (arith, is)) first.1 same))

pub returns-then-lo-hi-clause-none : goal.returns-then-lo-hi-clause-none
returns-then-lo-hi-clause-none c =
    no-range c.in_ok-lo.lo c.in_ok-hi.hi c.args.text.now c.in_ok-hi.rest.now
    (c.in_ok-lo.ensures.some.1 ∙ ap (λ (l : List ℕ). before (number_text c.in_ok-lo.lo) l) c.in_ok-hi.ensures.some.1)
    (λ is. omega (arith, is.0, c.if-lo-hi.true))
