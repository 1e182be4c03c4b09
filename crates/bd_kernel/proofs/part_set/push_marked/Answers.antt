use Rattle.std.proofs.Common.{Bool, false, get_or, arith}
use Rattle.std.proofs.lemmas.List.{get_or_default}
use Rattle.bd_kernel.proofs.KeyLists.{marked_keys-step}
use Rattle.bd_kernel.proofs.part_set.push_marked.Goals as goal

pub loop-number-preserved : goal.loop-number-preserved
loop-number-preserved c =
    let marks = c.args.marks.now in
    let number = c.loop-number.number in
    let mark : Bool = get_or marks number false in (
      marked_keys-step (λ part. record { process = c.args.process; fd = c.args.fd; part = part }) c.args.keys.now c.loop-number.keys
          c.push_where.new.keys marks number mark c.loop-number-test.true (get_or_default marks number false mark c.loop-number-test.true)
          c.loop-number.invariant.0 c.push_where.ensures.keys,
      omega (arith, c.push_where.ensures.few, c.loop-number.invariant.1),
    )
