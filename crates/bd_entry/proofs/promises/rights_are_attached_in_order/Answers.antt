use Rattle.bd_entry.proofs.PairsInUse.{next_part_is_legal, pairs_are_few}
use Rattle.bd_entry.proofs.promises.rights_are_attached_in_order.Goals as goal

pub returns-clause-next : goal.returns-clause-next
returns-clause-next c = next_part_is_legal

pub returns-clause-few : goal.returns-clause-few
returns-clause-few c = pairs_are_few
