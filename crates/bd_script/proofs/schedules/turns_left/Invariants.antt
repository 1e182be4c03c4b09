-- What is left, and the turns so far, are what there was.
use Rattle.std.proofs.Common.{◌≡◌, ◌+◌, take}
use Rattle.bd_script.specs.Schedules.{kept_turns}
use Rattle.bd_script.proofs.schedules.turns_left.Given as goal

abbrev pub invariant-loop-item : goal.invariant-loop-item
invariant-loop-item l = l.left + kept_turns (take l.item-index l.kept) ≡ l.fn.left
