use Rattle.bd_blocks.proofs.RunLists.{runs-injective}
use Rattle.bd_blocks.proofs.laws.runs_have_one_reading.Goals as goal

pub returns : goal.returns
returns c = runs-injective
