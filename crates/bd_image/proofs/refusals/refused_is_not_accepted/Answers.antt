use Rattle.bd_image.proofs.RuleOrder.{not_accepted}
use Rattle.bd_image.proofs.refusals.refused_is_not_accepted.Goals as goal

pub returns : goal.returns
returns c = not_accepted
