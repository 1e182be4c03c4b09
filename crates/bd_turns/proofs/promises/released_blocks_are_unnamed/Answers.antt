use Rattle.bd_turns.proofs.Releases.{released_blocks_are_unnamed}
use Rattle.bd_turns.proofs.promises.released_blocks_are_unnamed.Goals as goal

pub returns : goal.returns
returns c = released_blocks_are_unnamed
