-- The ledger is that of the blank one.
use Rattle.bd_tables.proofs.tests.a_drain_waits_for_the_engine_inside.Given as goal

abbrev pub ghosts-some_drains : goal.ghosts-some_drains
ghosts-some_drains g a = record { name = a.blank.name; parts = a.blank.parts }
