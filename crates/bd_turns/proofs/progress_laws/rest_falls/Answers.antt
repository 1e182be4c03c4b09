use Rattle.bd_turns.proofs.FallingRest.{rest_falls}
use Rattle.bd_turns.proofs.progress_laws.rest_falls.Goals as goal

pub returns : goal.returns
returns c = rest_falls
