use Rattle.std.proofs.Common.{take}
use Rattle.bd_report.specs.Notes.{AreNotesOfAll}
use Rattle.bd_report.proofs.journal.notes_of_calls.Given as goal

abbrev pub invariant-loop-entry : goal.invariant-loop-entry
invariant-loop-entry l = AreNotesOfAll l.script (take l.entry-index l.journal) l.table.items
