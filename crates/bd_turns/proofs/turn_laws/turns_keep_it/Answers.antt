use Rattle.bd_turns.proofs.TurnsKept.{turns_keep_it}
use Rattle.bd_turns.proofs.turn_laws.turns_keep_it.Goals as goal

pub returns : goal.returns
returns c = turns_keep_it
