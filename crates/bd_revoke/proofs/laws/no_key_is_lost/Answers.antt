use Rattle.bd_revoke.proofs.Keeping.{left-counted, off_takes_one, step_keeps}
use Rattle.bd_revoke.proofs.laws.no_key_is_lost.Goals as goal

pub returns-clause-counted : goal.returns-clause-counted
returns-clause-counted c = left-counted

pub returns-clause-steps : goal.returns-clause-steps
returns-clause-steps c = λ r posts. step_keeps r.to_clear r.to_post r.waiting r.by posts

pub returns-clause-off : goal.returns-clause-off
returns-clause-off c = off_takes_one
