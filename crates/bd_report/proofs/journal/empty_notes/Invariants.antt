use Rattle.std.proofs.Common.{◌≡◌, [], All, length}
use Rattle.bd_base.specs.declared.script.Call.{Call}
use Rattle.bd_report.specs.Notes.{AreNotesOf}
use Rattle.bd_report.proofs.journal.empty_notes.Given as goal

abbrev pub invariant-loop : goal.invariant-loop
invariant-loop l =
    record {
      count : length l.table.items ≡ l.counter;
      nothing : All (λ notes. (call : Call) → AreNotesOf call [] notes) l.table.items;
    }
