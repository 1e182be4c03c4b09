use Rattle.bd_entry.proofs.Reasons.{numbered_read, plain_read}
use Rattle.bd_entry.proofs.read.reasons.read_reason.Goals as goal

pub returns-in-Some : goal.returns-in-Some
returns-in-Some c = plain_read c.args.text.now c.in-Some.reason c.in-Some.ensures

pub returns-in-None : goal.returns-in-None
returns-in-None c = numbered_read c.args.text.now c.in-None.ensures c.read_numbered.result c.read_numbered.ensures
