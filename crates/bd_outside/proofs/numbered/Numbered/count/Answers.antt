use Rattle.std.proofs.Common.{◌≡◌}
use Rattle.std.specs.Prelude.{nat_eq}
use Rattle.std.specs.List.{list_any}
use Rattle.bd_outside.proofs.Counts.{faults-le-next, faults-lt-next}
use Rattle.bd_outside.proofs.numbered.Numbered.count.Goals as goal

pub returns-clause-rose : goal.returns-clause-rose
returns-clause-rose c =
    let same : c.contains.result ≡ list_any (λ m. nat_eq m c.in-Some.number) c.self.inside.fails = rw (← c.as_slice.ensures) c.contains.ensures.value in
    faults-lt-next _ c.in-Some.number _ _ _ (rw c.in-Some.is at c.self.view_is) c.checked_add-self-inside.ensures same

pub returns-clause-never_falls : goal.returns-clause-never_falls
returns-clause-never_falls c = faults-le-next _ c.in-Some.number _ _ (rw c.in-Some.is at c.self.view_is) c.checked_add-self-inside.ensures
