use Rattle.bd_revoke.proofs.Keeping.{waits_for_room, waits_for_detaching}
use Rattle.bd_revoke.proofs.laws.waits_exactly_where.Goals as goal

pub returns-clause-room : goal.returns-clause-room
returns-clause-room c = λ r posts. waits_for_room r.to_post r.to_clear r.waiting posts

pub returns-clause-detaching : goal.returns-clause-detaching
returns-clause-detaching c = λ r posts left. waits_for_detaching r.to_clear r.to_post r.waiting r.by posts left
