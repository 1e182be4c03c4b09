use Rattle.std.proofs.Common.{take}
use Rattle.bd_report.specs.Counts.{AreLooks}
use Rattle.bd_report.proofs.looks.looks_of.Given as goal

abbrev pub invariant-loop-event : goal.invariant-loop-event
invariant-loop-event l = AreLooks (take l.event-index l.trace) l.looks
