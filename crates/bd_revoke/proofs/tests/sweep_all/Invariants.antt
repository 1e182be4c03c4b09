-- The lines below this one were swept.
use Rattle.std.proofs.Common.{◌≡◌}
use Rattle.bd_tables.specs.Sweeps.{lines_swept}
use Rattle.bd_revoke.proofs.tests.sweep_all.Given as goal

abbrev pub invariant-loop-line : goal.invariant-loop-line
invariant-loop-line g l = g.T.KernelSide.kernel l.tables ≡ lines_swept (g.T.KernelSide.kernel l.initial.tables) l.line l.key
