-- The run goes as far as the place.
use Rattle.std.proofs.Common.{length, ◌-◌, ◌≡◌, ◌<◌, ◌≤◌, ◌++◌, drop, replicate}
use Rattle.bd_blocks.proofs.print.run_end.Given as goal

abbrev pub invariant-loop-end : goal.invariant-loop-end
invariant-loop-end l = record {
  after : l.at < l.end;
  within : l.end ≤ length l.bytes;
  run : drop l.at l.bytes ≡ replicate (l.end - l.at) l.byte ++ drop l.end l.bytes;
}

abbrev pub decreases-loop-end : goal.decreases-loop-end
decreases-loop-end l = length l.bytes - l.end
