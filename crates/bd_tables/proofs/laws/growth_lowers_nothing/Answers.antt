-- The laws are proved as lemmas.
use Rattle.bd_tables.proofs.KernelSound.{put_lowers_nothing, raise_lowers_nothing}
use Rattle.bd_tables.proofs.laws.growth_lowers_nothing.Goals as goal

pub returns-clause-put : goal.returns-clause-put
returns-clause-put c = put_lowers_nothing

pub returns-clause-raise : goal.returns-clause-raise
returns-clause-raise c = raise_lowers_nothing
