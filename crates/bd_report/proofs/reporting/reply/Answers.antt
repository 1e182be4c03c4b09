use Rattle.bd_entry.proofs.HistoryLaws.{is_call}
use Rattle.bd_report.proofs.Order.{all_few}
use Rattle.bd_report.proofs.reporting.reply.Goals as goal

pub notes_of_call-notes-requires : goal.notes_of_call-notes-requires
notes_of_call-notes-requires c = all_few c.args.script.now c.args.journal.now c.requires.limits c.requires.in_order

pub push_reply-requires-clause-limits : goal.push_reply-requires-clause-limits
push_reply-requires-clause-limits c = is_call c.args.script.now c.args.at c.call_at-call.result.now c.requires.limits c.call_at-call.ensures
