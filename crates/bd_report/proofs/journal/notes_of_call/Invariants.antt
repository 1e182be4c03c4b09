use Rattle.std.proofs.Common.{take}
use Rattle.bd_entry.specs.Calls.{entries_of}
use Rattle.bd_report.specs.Notes.{AreNotesOf}
use Rattle.bd_report.proofs.journal.notes_of_call.Given as goal

abbrev pub invariant-loop-entry : goal.invariant-loop-entry
invariant-loop-entry l = AreNotesOf l.call (entries_of l.at (take l.entry-index l.journal)) l.notes
