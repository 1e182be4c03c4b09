use Rattle.std.proofs.Common.{sym, ap, ◌∙◌}
use Rattle.bd_base.specs.declared.script.Call.TheVariants.{Enter}
use Rattle.bd_base.specs.declared.script.How.{How}
use Rattle.bd_entry.specs.Actions.{keys_to_revoke}
use Rattle.bd_kernel.specs.Sights.{place_of, store_of}
use Rattle.bd_kernel.proofs.revocation.keys_to_revoke.Goals as goal

pub returns-in-Plain : goal.returns-in-Plain
returns-in-Plain c = λ uids bytes work number before opens.
    let s = store_of c.args.fs.now c.args.table.now uids bytes work in
    let p = place_of c.args.call.now c.args.process number before in
    c.keys_of_file.ensures uids bytes work number before opens
    ∙ sym (ap (keys_to_revoke s p) (c.in-Enter.is ∙ ap (λ (how : How). Enter c.in-Enter.name c.in-Enter.mode how) c.in-Plain.is))

pub returns-in-Truncate : goal.returns-in-Truncate
returns-in-Truncate c = λ uids bytes work number before opens.
    let s = store_of c.args.fs.now c.args.table.now uids bytes work in
    let p = place_of c.args.call.now c.args.process number before in
    c.keys_of_longer.ensures uids bytes work number before opens ∙ sym (ap (keys_to_revoke s p) c.in-Truncate.is)
