use Rattle.bd_turns.proofs.CourseStates.{runs_are_reached, runs_keep_scripts, turns_are_of_actors}
use Rattle.bd_turns.proofs.course_laws.runs_are_reached.Goals as goal

pub returns-clause-actors : goal.returns-clause-actors
returns-clause-actors c = turns_are_of_actors

pub returns-clause-script : goal.returns-clause-script
returns-clause-script c = runs_keep_scripts

pub returns-clause-reached : goal.returns-clause-reached
returns-clause-reached c = runs_are_reached
