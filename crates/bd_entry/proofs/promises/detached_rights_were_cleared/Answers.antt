use Rattle.bd_entry.proofs.Accesses.{detached_is_cleared}
use Rattle.bd_entry.proofs.promises.detached_rights_were_cleared.Goals as goal

pub returns : goal.returns
returns c = detached_is_cleared
