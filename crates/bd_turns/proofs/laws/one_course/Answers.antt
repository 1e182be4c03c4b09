use Rattle.bd_turns.proofs.Determined.{one_course}
use Rattle.bd_turns.proofs.laws.one_course.Goals as goal

pub returns : goal.returns
returns c = one_course
