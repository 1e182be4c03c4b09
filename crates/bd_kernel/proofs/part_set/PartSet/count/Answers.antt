use Rattle.std.proofs.Common.{◌≡◌, ℕ, List, length, sym, ap, ◌∙◌, arith, rules}
use Rattle.bd_base.specs.declared.limits.TheConstants.{PARTS}
use Rattle.bd_kernel.proofs.PartSets.{length-marked}
use Rattle.bd_kernel.proofs.part_set.PartSet.count.Goals as goal

pub returns-clause-count : goal.returns-clause-count
returns-clause-count c =
    c.count_marks.ensures.count ∙ sym (length-marked c.self.inside.marks 0) ∙ ap (λ (xs : List ℕ). length xs) c.self.view_is
