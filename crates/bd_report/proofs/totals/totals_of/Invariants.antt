use Rattle.std.proofs.Common.{take}
use Rattle.bd_report.specs.Totals.{AreTotals}
use Rattle.bd_report.proofs.totals.totals_of.Given as goal

abbrev pub invariant-loop-entry : goal.invariant-loop-entry
invariant-loop-entry l = AreTotals (take l.entry-index l.journal) l.totals
