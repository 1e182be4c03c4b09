use Rattle.std.proofs.Common.{ap, ℕ}
use Rattle.std.specs.FinSet as set
use Rattle.std.proofs.Common.{nat_cmp}
use Rattle.bd_extents.proofs.Marks.{marked_below-none, is_marked-replicate}
use Rattle.bd_extents.proofs.free_set.FreeSet.new.Goals as goal

pub returns : goal.returns
returns c =
    ap (λ (s : set.FinSet nat_cmp). record { total = c.args.total; free = s })
    (marked_below-none c.args.total c.in_ok-words.words.items (rw (c.in_ok-words.ensures.items_if_clones_equal (λ y same. same)) (is_marked-replicate _)))
