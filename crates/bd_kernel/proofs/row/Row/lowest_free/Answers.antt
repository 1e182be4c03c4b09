use Rattle.std.proofs.Common.{◌<◌, List, Option, length, ap, ◌∙◌, arith}
use Rattle.std.specs.Prelude.{position}
use Rattle.bd_base.specs.declared.limits.TheConstants.{DESCRIPTORS}
use Rattle.bd_base.proofs.Lists.{wrapped}
use Rattle.bd_entry.specs.Store.{Descriptor, is_empty_slot}
use Rattle.bd_kernel.proofs.row.Row.lowest_free.Goals as goal

pub returns-in_err-number : goal.returns-in_err-number
returns-in_err-number c =
    c.from_residual.ensures ∙ c.in_err-number.ensures.place ∙ ap (position (is_empty_slot)) (c.deref.ensures.value ∙ c.self.view_is)

pub returns : goal.returns
returns c =
    let slots = ap (λ (xs : List (Option Descriptor)). length xs) c.deref.ensures.value in
    let within : c.in_ok-number.number < DESCRIPTORS = omega (arith, slots, c.in_ok-number.ensures.within, c.self.invariant) in
    wrapped c.new.result _ c.in_ok-number.number c.new.ensures within ∙ c.in_ok-number.ensures.place
    ∙ ap (position (is_empty_slot)) (c.deref.ensures.value ∙ c.self.view_is)
