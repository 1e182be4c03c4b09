-- The ledger is that of the blank one.
use Rattle.bd_tables.proofs.tests.the_next_walk_sees_what_was_filled_and_raised.Given as goal

abbrev pub ghosts-some_growth : goal.ghosts-some_growth
ghosts-some_growth g a = record { name = a.blank.name; parts = a.blank.parts }
