use Rattle.std.proofs.Common.{◌≡◌, Some, sym, ap, ◌∙◌}
use Rattle.std.specs.Option.{option_map}
use Rattle.bd_base.specs.declared.reason.Reason.TheVariants.{KernelOpen}
use Rattle.bd_entry.specs.Store.{Descriptor, Holder, first_holder, first_plain, is_plain_of}
use Rattle.bd_kernel.specs.Sights.{bare, no_files}
use Rattle.bd_kernel.proofs.refusals.map_refusal.Goals as goal

pub returns : goal.returns
returns c =
    let s = bare no_files c.args.table.now in
    let d = c.args.descriptor.now in
    let file = ap (λ (x : Descriptor). x.file) c.descriptor.view_is in
    let found : Some c.in_ok-holder.holder ≡ first_plain s d.file =
    sym c.in_ok-holder.was ∙ c.first_plain.ensures ∙ ap (first_plain s) file in
    ap (λ (h : Holder). Some (KernelOpen h.process)) c.holder.view_is ∙ ap (option_map (λ (h : Holder). KernelOpen h.process)) found
