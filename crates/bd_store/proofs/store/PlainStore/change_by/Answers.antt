use Rattle.std.proofs.Common.{sym, subst}
use Rattle.bd_kernel.specs.Disks.{CanChange}
use Rattle.bd_store.specs.Kept.{Kept, disk_of}
use Rattle.bd_store.proofs.store.PlainStore.change_by.Goals as goal

pub change-requires : goal.change-requires
change-requires c =
    let held = c.self.inside.disk.held in
    subst (λ (k : Kept). CanChange (disk_of k held) c.args.entry.now) (sym c.self.view_is) (c.requires.fit held)
