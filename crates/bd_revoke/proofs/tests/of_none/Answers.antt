use Rattle.std.proofs.Common.{sym, subst}
use Rattle.std.specs.List.Sorted.{IsStrictlySortedBy}
use Rattle.bd_base.specs.Keys.{key_cmp}
use Rattle.bd_revoke.proofs.tests.of_none.Goals as goal

pub begin-requires : goal.begin-requires
unfolding IsStrictlySortedBy
begin-requires c = subst (IsStrictlySortedBy key_cmp) (sym c.new.ensures) tt
