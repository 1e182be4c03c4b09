use Rattle.std.proofs.Common.{◌≡◌, true, not, ap, sym, ◌∙◌, arith}
use Rattle.bd_base.proofs.Lists.{wrapped}
use Rattle.bd_base.proofs.Ranges.{find-range, find-range_none}
use Rattle.bd_entry.specs.Store.{has_part}
use Rattle.bd_kernel.proofs.part_set.PartSet.lowest_missing.Goals as goal

pub returns-then-not-contains : goal.returns-then-not-contains
returns-then-not-contains c =
    let missing : not (has_part c.loop-number.number c.args.self.now) ≡ true = ap not (sym c.contains.ensures ∙ c.if-not-contains.true) in
    wrapped c.new.result _ c.loop-number.number c.new.ensures (omega arith)
    ∙ sym
    (find-range (λ part. not (has_part part c.args.self.now)) 0 c.args.end c.loop-number.number (omega arith) (omega arith) missing
    (λ part low below. ap not (c.loop-number.invariant part below)))

pub returns : goal.returns
returns c =
    sym
    (find-range_none (λ part. not (has_part part c.args.self.now)) 0 c.args.end
    (λ part low below. ap not (c.loop-number.invariant part (omega arith))))
