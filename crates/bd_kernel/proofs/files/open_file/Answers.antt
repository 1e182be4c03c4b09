use Rattle.std.proofs.Common.{◌≡◌, ℕ, None, Some, refl, sym, ap, ◌∙◌}
use Rattle.std.specs.Option.{option_and_then, option_map}
use Rattle.bd_entry.specs.declared.act.Act.TheVariants as acts
use Rattle.bd_entry.specs.Refusals.{file_of}
use Rattle.bd_entry.specs.Store.{lowest_fd}
use Rattle.bd_kernel.specs.Sights.{place_of, store_of}
use Rattle.bd_kernel.proofs.files.open_file.Goals as goal

pub returns-in_err-file : goal.returns-in_err-file
returns-in_err-file c = λ uids bytes work number before opens.
    let s = store_of c.args.fs.now c.args.table.now uids bytes work in
    let p = place_of c.args.call.now c.args.process number before in
    let none : file_of s p ≡ None = sym (c.file_of.ensures uids bytes work number before opens) ∙ c.in_err-file.was in
    c.from_residual.ensures ∙ sym (ap (option_and_then (λ file. option_map (acts.Opened file) (lowest_fd s c.args.process))) none)

pub returns : goal.returns
returns c = λ uids bytes work number before opens.
    let s = store_of c.args.fs.now c.args.table.now uids bytes work in
    let p = place_of c.args.call.now c.args.process number before in
    let of : file_of s p ≡ Some c.in_ok-file.file = sym (c.file_of.ensures uids bytes work number before opens) ∙ c.in_ok-file.was in
    let fd : lowest_fd s c.args.process ≡ Some c.in_ok-fd.fd = sym c.lowest_free.ensures ∙ c.in_ok-fd.was in
    sym
    (ap (option_and_then (λ file. option_map (acts.Opened file) (lowest_fd s c.args.process))) of
    ∙ ap (option_map (acts.Opened c.in_ok-file.file)) fd)
