use Rattle.bd_turns.proofs.CourseOrder.{ends_are_in_order}
use Rattle.bd_turns.proofs.course_laws.ends_are_in_order.Goals as goal

pub returns : goal.returns
returns c = ends_are_in_order
