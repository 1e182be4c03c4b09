use Rattle.std.proofs.Common.{arith}
use Rattle.std.proofs.lemmas.Grind.{common_steps}
use Rattle.bd_extents.proofs.ExtentLists.{blocks_of-push}
use Rattle.bd_extents.proofs.extents.blocks_of.Goals as goal

pub loop-extent-preserved : goal.loop-extent-preserved
loop-extent-preserved c = grind (arith, common_steps, blocks_of-push)
