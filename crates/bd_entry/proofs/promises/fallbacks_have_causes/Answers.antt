use Rattle.bd_entry.proofs.Accesses.{after_miss_has_missed, past_known_ends_above}
use Rattle.bd_entry.proofs.promises.fallbacks_have_causes.Goals as goal

pub returns-clause-after_miss : goal.returns-clause-after_miss
returns-clause-after_miss c = after_miss_has_missed

pub returns-clause-past_known : goal.returns-clause-past_known
returns-clause-past_known c = past_known_ends_above
