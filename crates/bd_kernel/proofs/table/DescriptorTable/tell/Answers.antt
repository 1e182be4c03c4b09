use Rattle.std.proofs.Common.{rules, refl}
use Rattle.std.proofs.lemmas.List.{with_items_is}
use Rattle.bd_kernel.specs.Changes.{changed}
use Rattle.bd_kernel.specs.declared.descriptor.Change.TheVariants.{Tell}
use Rattle.bd_kernel.proofs.CountedRows.{change_counted}
use Rattle.bd_kernel.proofs.table.DescriptorTable.tell.Goals as goal

pub invariant_of-self : goal.invariant_of-self
invariant_of-self c =
    let new = c.change_row.new.rows in
    rw (with_items_is c.self.inside.rows new (search rules))
    (change_counted c.self.inside.pairs c.self.inside.rows.items c.deref_mut.result.now new c.args.process c.args.fd (changed (Tell c.args.size)) (λ d. refl)
    c.deref_mut.ensures.value c.change_row.ensures c.self.invariant)
