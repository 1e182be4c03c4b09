use Rattle.bd_blocks.proofs.RunLists.{runs-of_bytes}
use Rattle.bd_blocks.proofs.laws.runs_are_those_of_their_bytes.Goals as goal

pub returns : goal.returns
returns c = runs-of_bytes
