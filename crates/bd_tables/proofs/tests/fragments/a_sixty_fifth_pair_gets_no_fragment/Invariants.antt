-- No fragment has a filled cell.
use Rattle.bd_tables.proofs.Bare.{IsBare}
use Rattle.bd_tables.proofs.tests.fragments.a_sixty_fifth_pair_gets_no_fragment.Given as goal

abbrev pub invariant-loop-number : goal.invariant-loop-number
invariant-loop-number g l = IsBare l.tables.book
