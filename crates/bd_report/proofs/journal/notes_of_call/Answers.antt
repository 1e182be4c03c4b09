use Rattle.bd_report.proofs.journal.notes_of_call.Goals as goal

pub loop-entry-init : goal.loop-entry-init
loop-entry-init c = c.new-notes.ensures c.args.call.now
