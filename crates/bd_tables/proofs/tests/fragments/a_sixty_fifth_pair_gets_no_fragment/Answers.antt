-- New tables have no fragment.
use Rattle.std.proofs.Common.{ap, sym, subst}
use Rattle.bd_tables.specs.Plain.{PlainState}
use Rattle.bd_tables.proofs.Bare.{IsBare, empty-bare}
use Rattle.bd_tables.proofs.tests.fragments.a_sixty_fifth_pair_gets_no_fragment.Goals as goal

pub loop-number-init : goal.loop-number-init
loop-number-init g c = subst IsBare (sym (ap (λ (plain : PlainState). plain.book) c.in_ok-tables.ensures)) empty-bare

pub attach_bare-requires : goal.attach_bare-requires
attach_bare-requires g c = record { bare = c.loop-number.invariant }
