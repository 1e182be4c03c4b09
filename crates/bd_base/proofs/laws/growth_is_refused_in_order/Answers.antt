use Rattle.bd_base.proofs.Growth.{refuses_growth}
use Rattle.bd_base.proofs.laws.growth_is_refused_in_order.Goals as goal

pub returns : goal.returns
returns c = refuses_growth
