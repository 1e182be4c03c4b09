use Rattle.bd_turns.proofs.CourseStates.{events_lead_there, events_show_journals}
use Rattle.bd_turns.proofs.course_laws.events_show_journals.Goals as goal

pub returns-clause-state : goal.returns-clause-state
returns-clause-state c = events_lead_there

pub returns-clause-journal : goal.returns-clause-journal
returns-clause-journal c = events_show_journals
