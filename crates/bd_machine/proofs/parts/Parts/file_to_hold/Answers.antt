use Rattle.std.proofs.Common.{◌≡◌, ℕ, get_or, sym, ap, ◌∙◌}
use Rattle.std.specs.Option.{option_copied}
use Rattle.std.proofs.lemmas.Bool.{cond-true}
use Rattle.std.proofs.lemmas.Option.{get_or_from_slice_get, same_Some}
use Rattle.bd_machine.specs.declared.process.Process.{Process}
use Rattle.bd_machine.proofs.EntriesOfHolds.{file_in_store}
use Rattle.bd_machine.proofs.parts.Parts.file_to_hold.Goals as goal

pub returns : goal.returns
returns g c = λ y running s at before there begun is process_is are.
    let it : c.index.result.now ≡ y =
    c.index.ensures ∙ ap (λ (n : ℕ). get_or c.args.self.now.processes.items n c.index.result.now) c.get.ensures.value
    ∙ get_or_from_slice_get c.args.self.now.processes.items c.args.p y c.index.result.now there in
    let same : c.unwrap-running.result.now ≡ running =
    same_Some c.unwrap-running.result.now running
    (sym (ap option_copied c.unwrap-running.ensures) ∙ c.as_ref.ensures.value ∙ ap (λ (x : Process _). x.call) it ∙ begun) in
    file_in_store c.args.self.now.disk c.fs.result.now c.descriptors.result.now c.unwrap-running.result.now running s at before c.file.result
    c.fs.ensures c.descriptors.ensures same c.file.ensures is process_is are
    ∙ sym (cond-true _ _ _ (sym c.holds_after.ensures ∙ c.if-not-holds_after.false))
