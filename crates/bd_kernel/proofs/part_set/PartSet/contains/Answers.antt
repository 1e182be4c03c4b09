use Rattle.std.proofs.Common.{◌≡◌, ℕ, ◌+◌, sym, ap, ◌∙◌, arith}
use Rattle.bd_entry.specs.Store.{has_part}
use Rattle.bd_kernel.specs.PartMarks.{marked_from}
use Rattle.bd_kernel.proofs.PartSets.{has_part-marked}
use Rattle.bd_kernel.proofs.part_set.PartSet.contains.Goals as goal

pub returns : goal.returns
returns c =
    let marks = c.self.inside.marks in
    let at : 0 + c.args.part ≡ c.args.part = omega arith in
    c.is_marked.ensures ∙ sym (has_part-marked marks 0 c.args.part) ∙ ap (λ (n : ℕ). has_part n (marked_from 0 marks)) at
    ∙ ap (has_part c.args.part) c.self.view_is
