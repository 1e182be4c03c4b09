use Rattle.bd_turns.proofs.LegalTurns.{turns_add_legally}
use Rattle.bd_turns.proofs.turn_laws.turns_add_legally.Goals as goal

pub returns : goal.returns
returns c = turns_add_legally
