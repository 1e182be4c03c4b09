use Rattle.std.proofs.Common.{◌≡◌, ℕ, None, Some, sym, ap, ◌∙◌}
use Rattle.std.specs.Option.{option_map}
use Rattle.bd_entry.specs.declared.act.Act.{Act}
use Rattle.bd_entry.specs.declared.act.Act.TheVariants as acts
use Rattle.bd_entry.specs.Actions.{remove_file}
use Rattle.bd_entry.specs.Refusals.{file_of}
use Rattle.bd_entry.specs.Store.{size_in}
use Rattle.bd_kernel.specs.Sights.{place_of, store_of}
use Rattle.bd_kernel.proofs.files.unlink.Goals as goal

pub returns-in_err-file : goal.returns-in_err-file
returns-in_err-file c = λ uids bytes work number before opens.
    let s = store_of c.args.fs.now c.args.table.now uids bytes work in
    let p = place_of c.args.call.now c.args.process number before in
    let none : file_of s p ≡ None = sym (c.file_of.ensures uids bytes work number before opens) ∙ c.in_err-file.was in
    c.from_residual.ensures ∙ sym (ap (option_map (remove_file s)) none)

pub returns : goal.returns
returns c = λ uids bytes work number before opens.
    let s = store_of c.args.fs.now c.args.table.now uids bytes work in
    let p = place_of c.args.call.now c.args.process number before in
    let of : file_of s p ≡ Some c.in_ok-file.file = sym (c.file_of.ensures uids bytes work number before opens) ∙ c.in_ok-file.was in
    ap (λ (act : Act). Some act) c.remove_file.ensures ∙ sym (ap (option_map (remove_file s)) of)
