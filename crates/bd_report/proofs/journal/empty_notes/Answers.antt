use Rattle.std.proofs.Common.{[], arith}
use Rattle.std.proofs.lemmas.List.{length_push}
use Rattle.std.proofs.lemmas.List.Elements.{All-push}
use Rattle.bd_base.specs.declared.script.Call.{Call}
use Rattle.bd_report.specs.Notes.{AreNotesOf}
use Rattle.bd_report.proofs.journal.empty_notes.Goals as goal

pub loop-preserved : goal.loop-preserved
loop-preserved c =
    rw c.in_ok-push.ensures.items
    (record {
      count = omega (arith, length_push c.loop.table.items c.new.result, c.loop.invariant.count);
      nothing = All-push (λ notes. (call : Call) → AreNotesOf call [] notes) c.loop.table.items c.new.result c.loop.invariant.nothing c.new.ensures;
    })
