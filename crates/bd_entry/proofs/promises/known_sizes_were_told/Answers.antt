use Rattle.bd_entry.proofs.KnownSizes.{known_changes_at_end, known_is_told}
use Rattle.bd_entry.proofs.promises.known_sizes_were_told.Goals as goal

pub returns-clause-between_calls : goal.returns-clause-between_calls
returns-clause-between_calls c = known_is_told

pub returns-clause-at_the_end : goal.returns-clause-at_the_end
returns-clause-at_the_end c = known_changes_at_end
