use Rattle.std.proofs.Common.{◌≡◌, ℕ, ◌+◌, ◌<◌, length, ap, ◌∙◌, arith, rules}
use Rattle.bd_entry.specs.Store.{with_part}
use Rattle.bd_kernel.specs.PartMarks.{marked_from}
use Rattle.bd_kernel.proofs.PartSets.{marked-insert}
use Rattle.bd_kernel.proofs.part_set.PartSet.insert.Goals as goal

pub returns : goal.returns
returns c =
    let marks = c.self.inside.marks in
    let at : 0 + c.get.result ≡ c.args.part = omega arith in
    let within : c.get.result < length marks = search rules in
    marked-insert marks 0 c.get.result within ∙ ap (λ (n : ℕ). with_part n (marked_from 0 marks)) at ∙ ap (with_part c.args.part) c.self.view_is
