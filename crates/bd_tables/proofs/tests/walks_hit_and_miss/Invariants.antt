-- The ledger is that of the blank one.
use Rattle.bd_tables.proofs.tests.walks_hit_and_miss.Given as goal

abbrev pub ghosts-some_walks : goal.ghosts-some_walks
ghosts-some_walks g a = record { name = a.blank.name; parts = a.blank.parts }
