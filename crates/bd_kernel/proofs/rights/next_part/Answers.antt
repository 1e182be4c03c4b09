use Rattle.std.proofs.Common.{◌≡◌, ℕ, ◌&&◌, not, true, false, sym, ap, ◌∙◌}
use Rattle.bd_entry.specs.Store.{Descriptor, has_fragment, has_plain}
use Rattle.bd_kernel.specs.Sights.{bare}
use Rattle.bd_kernel.proofs.NextParts.{next_part-is}
use Rattle.bd_kernel.proofs.rights.next_part.Goals as goal

pub returns-then-can_attach : goal.returns-then-can_attach
returns-then-can_attach c =
    let s = bare c.args.fs.now c.args.table.now in
    let part = c.in_ok-part.part in
    let file = ap (λ (d : Descriptor). d.file) c.descriptor.view_is in
    let allowed = c.can_attach.ensures ∙ ap (λ (n : ℕ). not (has_plain s n) && has_fragment s n part) file in
    sym (next_part-is s c.args.descriptor.now part (sym c.lowest_unattached.ensures ∙ c.in_ok-part.was) true (sym allowed ∙ c.if-can_attach.true))

pub returns-else-can_attach : goal.returns-else-can_attach
returns-else-can_attach c =
    let s = bare c.args.fs.now c.args.table.now in
    let part = c.in_ok-part.part in
    let file = ap (λ (d : Descriptor). d.file) c.descriptor.view_is in
    let allowed = c.can_attach.ensures ∙ ap (λ (n : ℕ). not (has_plain s n) && has_fragment s n part) file in
    sym (next_part-is s c.args.descriptor.now part (sym c.lowest_unattached.ensures ∙ c.in_ok-part.was) false (sym allowed ∙ c.if-can_attach.false))
