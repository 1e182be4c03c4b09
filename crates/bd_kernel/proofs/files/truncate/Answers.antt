use Rattle.std.proofs.Common.{◌≡◌, ℕ, Option, None, Some, sym, ap, ◌∙◌}
use Rattle.std.specs.Option.{option_map}
use Rattle.bd_entry.specs.declared.act.Act.{Act}
use Rattle.bd_entry.specs.Actions.{truncate_to}
use Rattle.bd_entry.specs.Refusals.{file_of}
use Rattle.bd_kernel.specs.Sights.{place_of, store_of}
use Rattle.bd_kernel.proofs.files.truncate.Goals as goal

pub returns-in_err-file : goal.returns-in_err-file
returns-in_err-file c = λ uids bytes work number before opens.
    let s = store_of c.args.fs.now c.args.table.now uids bytes work in
    let p = place_of c.args.call.now c.args.process number before in
    let none : file_of s p ≡ None = sym (c.file_of.ensures uids bytes work number before opens) ∙ c.in_err-file.was in
    c.from_residual.ensures ∙ sym (ap (option_map (truncate_to s p c.args.size)) none)

pub returns : goal.returns
returns c = λ uids bytes work number before opens.
    let s = store_of c.args.fs.now c.args.table.now uids bytes work in
    let p = place_of c.args.call.now c.args.process number before in
    let of : file_of s p ≡ Some c.in_ok-file.file = sym (c.file_of.ensures uids bytes work number before opens) ∙ c.in_ok-file.was in
    ap (λ (act : Act). Some act) (c.truncate_file.ensures c.args.table.now uids bytes work p of) ∙ sym (ap (option_map (truncate_to s p c.args.size)) of)
