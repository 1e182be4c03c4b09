use Rattle.std.proofs.Common.{ℕ, Bool, ◌&&◌, Some, sym, ap, ◌∙◌}
use Rattle.bd_entry.specs.Store.{has_part}
use Rattle.bd_kernel.specs.Changes.{uses_pair}
use Rattle.bd_kernel.proofs.PairCounts.{pairs-of_file}
use Rattle.bd_kernel.proofs.descriptor.has_pair.Goals as goal

pub returns-then-eq : goal.returns-then-eq
returns-then-eq c =
    let parts = c.descriptor.inside.attached in
    let of = ap (λ (b : Bool). b && has_part c.args.part parts) (sym c.if-eq.ensures) in
    c.contains.ensures ∙ ap (λ (n : ℕ). has_part n parts) c.get.ensures.value
    ∙ sym (pairs-of_file c.args.file c.args.part c.descriptor.inside.file parts ∙ of)
    ∙ ap (uses_pair (c.args.file, c.args.part)) (ap Some c.descriptor.view_is ∙ sym c.in-Some.is)

pub returns-else-eq : goal.returns-else-eq
returns-else-eq c =
    let parts = c.descriptor.inside.attached in
    let of = ap (λ (b : Bool). b && has_part c.args.part parts) (sym c.if-eq.ensures) in
    c.if-eq.false ∙ sym (pairs-of_file c.args.file c.args.part c.descriptor.inside.file parts ∙ of)
    ∙ ap (uses_pair (c.args.file, c.args.part)) (ap Some c.descriptor.view_is ∙ sym c.in-Some.is)
