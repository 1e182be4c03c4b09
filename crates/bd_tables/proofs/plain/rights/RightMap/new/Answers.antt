-- No right is attached, and no pair is used.
use Rattle.std.proofs.Common.{refl, rules, None, Some}
use Rattle.bd_tables.proofs.RightMaps.{IsRightMap-none, rights_of-none}
use Rattle.bd_tables.proofs.plain.rights.RightMap.new.Goals as goal

pub invariant_of-result : goal.invariant_of-result
invariant_of-result c =
    IsRightMap-none _ _ (c.in_ok-rights.ensures.items_if_clones_equal (elim [ None ↦ λ same. refl | Some r ↦ λ same. absurd same ]))
    (c.in_ok-users.ensures.items_if_clones_equal (λ y same. search rules))

pub returns : goal.returns
returns c = rights_of-none _ (c.in_ok-rights.ensures.items_if_clones_equal (elim [ None ↦ λ same. refl | Some r ↦ λ same. absurd same ]))
