use Rattle.std.proofs.Common.{◌≡◌, [], ◌∷◌, ◌++◌, List, sym, subst, ap, ◌∙◌}
use Rattle.std.specs.List.Sorted.{IsStrictlySortedBy}
use Rattle.bd_base.specs.declared.key.Key.{Key}
use Rattle.bd_base.specs.Keys.{key_cmp}
use Rattle.bd_revoke.proofs.tests.of_one.Goals as goal

pub begin-requires : goal.begin-requires
unfolding IsStrictlySortedBy
begin-requires c =
    let one : _ ≡ c.args.key.now ∷ [] =
    c.push.ensures ∙ ap (λ (keys : List Key). keys ++ c.args.key.now ∷ []) c.new-keys.ensures in
    subst (IsStrictlySortedBy key_cmp) (sym one) (tt, tt)
