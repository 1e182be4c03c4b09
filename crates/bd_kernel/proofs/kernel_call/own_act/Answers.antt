use Rattle.std.proofs.Common.{◌≡◌, ℕ, sym, ap, ◌∙◌, subst}
use Rattle.std.specs.Option.{option_map}
use Rattle.bd_entry.specs.declared.act.Act.TheVariants as acts
use Rattle.bd_entry.specs.Actions.{Running, own_act, remove_file}
use Rattle.bd_entry.specs.Refusals.{file_of}
use Rattle.bd_entry.specs.Store.{size_in}
use Rattle.bd_kernel.specs.Changes.{Rows}
use Rattle.bd_kernel.specs.Holders.{holder_in}
use Rattle.bd_kernel.specs.Sights.{AtPlace, place_of, store_of}
use Rattle.bd_kernel.proofs.kernel_call.own_act.Goals as goal

pub returns-in-Unlink : goal.returns-in-Unlink
returns-in-Unlink c = λ uids bytes work number before opens marks.
    let s = store_of c.args.fs.now c.args.descriptors.now.rows uids bytes work in
    let p = place_of c.args.call.now c.args.process number before in
    let r : Running = record { place = p; outstanding = c.args.outstanding.now } in
    let found =
    subst
    (λ (rows : Rows). AtPlace c.args.fs.now rows c.args.call.now c.args.process c.args.running.now.opened
    (λ s p. c.unlink.result ≡ option_map (remove_file s) (file_of s p)))
    c.table-table.ensures c.unlink.ensures in
    found uids bytes work number before opens ∙ sym (ap (own_act s (holder_in c.args.descriptors.now.held) r) c.in-Unlink.is)

pub returns-in-Size : goal.returns-in-Size
returns-in-Size c = λ uids bytes work number before opens marks.
    let s = store_of c.args.fs.now c.args.descriptors.now.rows uids bytes work in
    let p = place_of c.args.call.now c.args.process number before in
    let r : Running = record { place = p; outstanding = c.args.outstanding.now } in
    let found =
    subst
    (λ (rows : Rows). AtPlace c.args.fs.now rows c.args.call.now c.args.process c.args.running.now.opened
    (λ s p. c.tell_size.result ≡ option_map (λ file. acts.SizeRead (size_in s file)) (file_of s p)))
    c.table-table.ensures c.tell_size.ensures in
    found uids bytes work number before opens ∙ sym (ap (own_act s (holder_in c.args.descriptors.now.held) r) c.in-Size.is)
