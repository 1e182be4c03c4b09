-- No fragment is in use.
use Rattle.std.proofs.Common.{ap, refl, ◌∙◌, rules, None, Some, Option}
use Rattle.std.proofs.lemmas.List.{length-replicate}
use Rattle.bd_base.specs.declared.key.Cell.{Cell}
use Rattle.bd_file_table.specs.Kept.{book_of}
use Rattle.bd_file_table.proofs.NewPool.{IsPool-none, book_of-none}
use Rattle.bd_file_table.proofs.pool.Pool.new.Goals as goal

pub invariant_of-result : goal.invariant_of-result
invariant_of-result c =
    IsPool-none _ refl (length-replicate {A = Option Cell} 512 None) _ _ (c.in_ok-slots.ensures.items_if_clones_equal (λ y same. search rules))
    (c.in_ok-numbers.ensures.items_if_clones_equal (elim [ None ↦ λ same. refl | Some n ↦ λ same. absurd same ]))

pub returns : goal.returns
returns c =
    ap (book_of c.in_ok-slots.slots.items) (c.in_ok-numbers.ensures.items_if_clones_equal (elim [ None ↦ λ same. refl | Some n ↦ λ same. absurd same ]))
    ∙ book_of-none c.in_ok-slots.slots.items 2048
