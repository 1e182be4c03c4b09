use Rattle.std.proofs.Common.{◌≡◌, ℕ, Some, None, sym, ◌∙◌}
use Rattle.std.specs.Global.{Vec}
use Rattle.bd_fs.proofs.MadeAndRemoved.{IsKept-removed}
use Rattle.bd_base.proofs.FileLists.{slot-is}
use Rattle.bd_fs.proofs.Names.{lookup-changed}
use Rattle.bd_base.specs.Inodes.{inode_at}
use Rattle.bd_fs.proofs.fs.Fs.remove.Goals as goal

pub invariant_of-self : goal.invariant_of-self
invariant_of-self c =
    let exists = rw (← c.self.view_is) at c.requires.exists in
    let empty = rw (← c.self.view_is) at c.requires.empty in
    let slot = slot-is c.self.inside.inodes.items c.args.file c.index_mut.result.now exists (rw c.get.ensures.value at c.index_mut.ensures.value) in
    let there : inode_at c.self.inside.inodes.items c.args.file ≡ Some c.in-Some.inode = sym (c.in-Some.ensures.value ∙ slot) in
    let updates = c.swap_remove.ensures.updates in
    let found = rw c.as_slice.ensures at (lookup-changed (λ (key : Vec ℕ). key.items) c.as_slice.result.now
    c.self.inside.names.entries c.swap_remove.new.self.entries None updates.3 updates.1) in
    rw (c.take-removed.ensures.after, c.get.ensures.value)
    (IsKept-removed _ _ c.args.file c.in-Some.inode
    c.self.invariant there (rw there at empty) found)
