-- The laws are proved as lemmas.
use Rattle.bd_tables.proofs.Sound.{hits_are_lookups, only_on_grants}
use Rattle.bd_tables.proofs.laws.walks_answer_the_lookup.Goals as goal

pub returns-clause-grants : goal.returns-clause-grants
returns-clause-grants c = only_on_grants

pub returns-clause-hits : goal.returns-clause-hits
returns-clause-hits c = hits_are_lookups
