use Rattle.std.proofs.Common.{◌≡◌, ℕ, ◌+◌, ap, ◌∙◌, arith}
use Rattle.bd_entry.specs.Store.{without_part}
use Rattle.bd_kernel.specs.PartMarks.{marked_from}
use Rattle.bd_kernel.proofs.PartSets.{marked-remove}
use Rattle.bd_kernel.proofs.part_set.PartSet.remove.Goals as goal

pub returns : goal.returns
returns c =
    let marks = c.self.inside.marks in
    let at : 0 + c.get.result ≡ c.args.part = omega arith in
    marked-remove marks 0 c.get.result ∙ ap (λ (n : ℕ). without_part n (marked_from 0 marks)) at ∙ ap (without_part c.args.part) c.self.view_is
