use Rattle.bd_entry.proofs.KeptFiles.{rights_keep_files}
use Rattle.bd_entry.proofs.promises.rights_keep_files.Goals as goal

pub returns : goal.returns
returns c = rights_keep_files
