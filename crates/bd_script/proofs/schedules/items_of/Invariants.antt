-- The items so far, whose actors are there.
use Rattle.std.proofs.Common.{◌≡◌, ◌≤◌, take, map}
use Rattle.std.specs.Prelude.{All}
use Rattle.bd_script.specs.declared.schedules.Turns.{Turns}
use Rattle.bd_script.specs.Schedules.{item_of}
use Rattle.bd_script.proofs.schedules.items_of.Given as goal

abbrev pub invariant-loop-turns : goal.invariant-loop-turns
invariant-loop-turns l = record {
  made : l.items ≡ map item_of (take l.turns-index l.kept);
  there : All (λ (t : Turns). t.actor ≤ l.last) (take l.turns-index l.kept);
}
