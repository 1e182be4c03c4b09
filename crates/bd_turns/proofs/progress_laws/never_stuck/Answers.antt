use Rattle.bd_turns.proofs.NeverStuck.{never_stuck}
use Rattle.bd_turns.proofs.progress_laws.never_stuck.Goals as goal

pub returns : goal.returns
returns c = never_stuck
