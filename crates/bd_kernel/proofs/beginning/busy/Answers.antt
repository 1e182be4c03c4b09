use Rattle.std.proofs.Common.{◌≡◌, ℕ, None, Some, sym, ap, ◌∙◌, subst}
use Rattle.std.specs.Option.{option_and_then, option_map}
use Rattle.bd_entry.specs.Actions.{wait_for}
use Rattle.bd_entry.specs.Refusals.{file_of}
use Rattle.bd_kernel.specs.Blockers.{busy_by}
use Rattle.bd_kernel.specs.Changes.{Rows}
use Rattle.bd_kernel.specs.Holders.{holder_in}
use Rattle.bd_kernel.specs.Sights.{AtPlace, place_of, store_of}
use Rattle.bd_kernel.proofs.beginning.busy.Goals as goal

pub returns-in_err-file : goal.returns-in_err-file
returns-in_err-file c = λ uids bytes work number before opens.
    let s = store_of c.args.fs.now c.args.descriptors.now.rows uids bytes work in
    let p = place_of c.args.call.now c.args.process number before in
    let found =
    subst (λ (rows : Rows). AtPlace c.args.fs.now rows c.args.call.now c.args.process c.args.running.now.opened (λ s p. c.file_of.result ≡ file_of s p))
    c.table.ensures c.file_of.ensures in
    let none : file_of s p ≡ None = sym (found uids bytes work number before opens) ∙ c.in_err-file.was in
    ap (option_map busy_by) c.from_residual.ensures
    ∙ sym (ap (option_and_then (λ file. wait_for c.args.process file (holder_in c.args.descriptors.now.held file))) none)

pub returns : goal.returns
returns c = λ uids bytes work number before opens.
    let s = store_of c.args.fs.now c.args.descriptors.now.rows uids bytes work in
    let p = place_of c.args.call.now c.args.process number before in
    let found =
    subst (λ (rows : Rows). AtPlace c.args.fs.now rows c.args.call.now c.args.process c.args.running.now.opened (λ s p. c.file_of.result ≡ file_of s p))
    c.table.ensures c.file_of.ensures in
    let of : file_of s p ≡ Some c.in_ok-file.file = sym (found uids bytes work number before opens) ∙ c.in_ok-file.was in
    c.wait_for.ensures ∙ ap (wait_for c.args.process c.in_ok-file.file) c.holder.ensures
    ∙ sym (ap (option_and_then (λ file. wait_for c.args.process file (holder_in c.args.descriptors.now.held file))) of)
