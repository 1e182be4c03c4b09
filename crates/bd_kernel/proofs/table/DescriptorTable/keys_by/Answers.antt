use Rattle.std.proofs.Common.{Option, None, true, sym, ap, ◌∙◌}
use Rattle.std.specs.Option.{option_copied}
use Rattle.bd_entry.specs.Actions.{keys_of_slot}
use Rattle.bd_entry.specs.Store.{Descriptor}
use Rattle.bd_kernel.specs.Changes.{slot_at}
use Rattle.bd_kernel.proofs.KeyLists.{keys_by-slot, no_keys, not_open, same_number}
use Rattle.bd_kernel.proofs.table.DescriptorTable.keys_by.Goals as goal

pub returns-in-Some : goal.returns-in-Some
returns-in-Some c =
    let rows = c.args.self.now in
    let slot = slot_at rows c.args.process c.args.fd in
    c.keys_of.ensures ∙ ap (keys_of_slot (λ d. true) c.args.process c.in-Some.number) c.get.ensures
    ∙ same_number c.args.process c.in-Some.number c.args.fd slot (sym c.in-Some.is ∙ c.open_number.ensures)
    ∙ sym (keys_by-slot c.args.process c.args.fd rows)

pub returns-in-None : goal.returns-in-None
returns-in-None c =
    let rows = c.args.self.now in
    let slot = slot_at rows c.args.process c.args.fd in
    c.new.ensures
    ∙ no_keys rows c.args.process c.args.fd (not_open slot c.args.fd (sym c.open_number.ensures ∙ c.in-None.is))
