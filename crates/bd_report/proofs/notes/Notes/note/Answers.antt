use Rattle.bd_report.proofs.Telling.{AreNotesOf-push}
use Rattle.bd_report.proofs.notes.Notes.note.Goals as goal

pub returns : goal.returns
returns c = λ entries tells.
    AreNotesOf-push c.args.call.now entries c.args.entry.now c.args.self.now _ tells c.first_end-self.ensures c.note_answer.auto.answers c.note_answer.ensures
