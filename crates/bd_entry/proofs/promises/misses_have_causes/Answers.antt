use Rattle.bd_entry.proofs.Accesses.{no_directory_is_no_right}
use Rattle.bd_entry.proofs.WriteModes.{pieces_miss_nothing_else}
use Rattle.bd_entry.proofs.promises.misses_have_causes.Goals as goal

pub returns-clause-no_directory : goal.returns-clause-no_directory
returns-clause-no_directory c = no_directory_is_no_right

pub returns-clause-nothing_else : goal.returns-clause-nothing_else
returns-clause-nothing_else c = pieces_miss_nothing_else
