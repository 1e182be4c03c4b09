use Rattle.bd_entry.proofs.Accesses.{direct_access_is_under_right}
use Rattle.bd_entry.proofs.promises.direct_accesses_are_under_rights.Goals as goal

pub returns : goal.returns
returns c = direct_access_is_under_right
