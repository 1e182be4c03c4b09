use Rattle.std.proofs.Common.{◌≡◌, ◌<◌, ◌+◌, get_or, arith}
use Rattle.bd_script.proofs.TurnSums.{kept_turns-more, kept_turns-upto}
use Rattle.bd_script.proofs.schedules.turns_left.Goals as goal

pub returns-in_default : goal.returns-in_default
returns-in_default c =
    let i = c.loop-item.item-index in
    let kept = c.args.kept.now in
    let here : c.loop-item.left < (get_or kept i (record { actor = 0; turns = 0 })).turns = grind (arith, c.in_default.ensures) in
    omega (arith, c.loop-item.invariant, kept_turns-more kept i (record { actor = 0; turns = 0 }) c.loop-item-test.true, kept_turns-upto kept (i + 1))

pub loop-item-preserved : goal.loop-item-preserved
loop-item-preserved c =
    let i = c.loop-item.item-index in
    let kept = c.args.kept.now in
    let here : c.in-Some.next + (get_or kept i (record { actor = 0; turns = 0 })).turns ≡ c.loop-item.left = omega (arith, c.in-Some.ensures) in
    omega (arith, c.loop-item.invariant, kept_turns-more kept i (record { actor = 0; turns = 0 }) c.loop-item-test.true)
