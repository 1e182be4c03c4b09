use Rattle.bd_fs.proofs.Denials.{least_denial}
use Rattle.bd_fs.proofs.policy.policy_tells_the_least_rule.Goals as goal

pub returns : goal.returns
returns c = λ q. least_denial q.ask q.uid q.owner q.perms
