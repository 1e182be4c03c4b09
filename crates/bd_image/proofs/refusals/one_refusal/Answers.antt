use Rattle.bd_image.proofs.RuleOrder.{one_number, one_place}
use Rattle.bd_image.proofs.refusals.one_refusal.Goals as goal

pub returns : goal.returns
returns c = λ b m p n q g h. (one_number b m p n q g h, one_place b m p n q g h)
