use Rattle.bd_turns.proofs.CourseBounds.{runs_are_short}
use Rattle.bd_turns.proofs.CourseEnds.{runs_end}
use Rattle.bd_turns.proofs.course_laws.runs_end.Goals as goal

pub returns-clause-ends : goal.returns-clause-ends
returns-clause-ends c = runs_end

pub returns-clause-bound : goal.returns-clause-bound
returns-clause-bound c = runs_are_short
