use Rattle.std.proofs.Common.{◌≡◌, [], ◌∷◌, ◌++◌, List, sym, subst, ap, ◌∙◌}
use Rattle.std.specs.List.Sorted.{IsStrictlySortedBy}
use Rattle.bd_base.specs.declared.key.Key.{Key}
use Rattle.bd_base.specs.Keys.{key_cmp}
use Rattle.bd_revoke.proofs.NextSteps.{less-process}
use Rattle.bd_revoke.proofs.tests.of_two.Goals as goal

pub begin-requires : goal.begin-requires
unfolding IsStrictlySortedBy
begin-requires c =
    let first = c.args.first.now in
    let second = c.args.second.now in
    let two : _ ≡ first ∷ second ∷ [] =
    c.push-2.ensures ∙ ap (λ (keys : List Key). keys ++ second ∷ [])
    (c.push.ensures ∙ ap (λ (keys : List Key). keys ++ first ∷ []) c.new-keys.ensures) in
    subst (IsStrictlySortedBy key_cmp) (sym two) ((less-process first second c.requires, tt), (tt, tt))
