-- The ledger is that of the blank one.
use Rattle.bd_base.proofs.steps.tests.counts.Given as goal

abbrev pub ghosts-two_ticks : goal.ghosts-two_ticks
ghosts-two_ticks a = record { name = a.blank.name; parts = a.blank.parts }
