-- The text so far, and that of the bytes from the place on, are the whole.
use Rattle.std.proofs.Common.{length, drop, ◌-◌, ◌≡◌, ◌≤◌, ◌++◌}
use Rattle.bd_blocks.specs.Runs.{runs_of, later_text, runs_text}
use Rattle.bd_blocks.proofs.print.push_runs.Given as goal

abbrev pub invariant-loop-at : goal.invariant-loop-at
invariant-loop-at l = record {
  within : l.at ≤ length l.bytes;
  text : l.text.items ++ later_text (runs_of (drop l.at l.bytes)) ≡ l.fn.text.items ++ runs_text l.bytes;
}

abbrev pub decreases-loop-at : goal.decreases-loop-at
decreases-loop-at l = length l.bytes - l.at
