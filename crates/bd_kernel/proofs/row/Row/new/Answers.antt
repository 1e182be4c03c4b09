use Rattle.std.proofs.Common.{◌≡◌, ◌∙◌, List, Option, None, length, ap, arith}
use Rattle.std.proofs.lemmas.List.{length-replicate}
use Rattle.bd_base.specs.declared.limits.TheConstants.{DESCRIPTORS}
use Rattle.bd_entry.specs.Store.{Descriptor}
use Rattle.bd_kernel.proofs.row.Row.new.Goals as goal

pub invariant_of-result : goal.invariant_of-result
invariant_of-result c =
    let all : c.loop-number._number ≡ DESCRIPTORS = omega arith in
    ap (λ (xs : List (Option Descriptor)). length xs) c.loop-number.invariant ∙ length-replicate c.loop-number._number None ∙ all
