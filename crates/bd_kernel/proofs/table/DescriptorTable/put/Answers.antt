use Rattle.std.proofs.Common.{◌≡◌, ℕ, ◌<◌, [], length, ap, sym, ◌∙◌, subst}
use Rattle.bd_entry.specs.Store.{pairs_of_slot}
use Rattle.bd_kernel.specs.Changes.{Rows, slot_at}
use Rattle.bd_kernel.proofs.CountedRows.{put_counted}
use Rattle.bd_kernel.proofs.table.DescriptorTable.put.Goals as goal

pub invariant_of-self : goal.invariant_of-self
invariant_of-self c =
    let rows = c.self.inside.rows.items in
    let process = c.get.result in
    let within : process < length rows =
    subst (λ (at : ℕ). at < length rows) (sym c.get.ensures.value)
    (subst (λ (old : Rows). c.args.process < length old) (sym c.self.view_is) c.requires.process) in
    let old : pairs_of_slot (slot_at rows process c.args.fd) ≡ [] =
    ap (λ (old : Rows). pairs_of_slot (slot_at old process c.args.fd)) c.self.view_is
    ∙ ap (λ (at : ℕ). pairs_of_slot (slot_at c.args.self.now at c.args.fd)) c.get.ensures.value ∙ c.requires.old in
    put_counted c.self.inside.pairs rows process c.args.fd c.args.slot c.index_mut.result.now c.put.new.self within c.index_mut.ensures.value
    c.put.ensures old c.requires.new c.self.invariant
