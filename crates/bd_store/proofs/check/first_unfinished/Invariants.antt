use Rattle.std.proofs.Common.{ℕ, ◌<◌, ◌≤◌, length}
use Rattle.std.specs.Prelude.{slice_index}
use Rattle.bd_entry.specs.Calls.{calls_of}
use Rattle.bd_store.proofs.check.first_unfinished.Given as goal

abbrev pub invariant-loop-process : goal.invariant-loop-process
invariant-loop-process l = (k : ℕ) → k < l.process → length (calls_of l.script k) ≤ slice_index l.finished k
