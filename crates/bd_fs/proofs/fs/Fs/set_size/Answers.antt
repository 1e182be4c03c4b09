use Rattle.bd_fs.proofs.Changes.{IsKept-resized}
use Rattle.bd_base.proofs.FileLists.{inode_at-existing_file, slot-is}
use Rattle.bd_fs.proofs.fs.Fs.set_size.Goals as goal

pub invariant_of-self : goal.invariant_of-self
invariant_of-self c =
    let exists = rw (← c.self.view_is) at c.requires.exists in
    let enough = rw (← c.self.view_is) at c.requires.enough_blocks in
    let slot = slot-is c.self.inside.inodes.items c.args.file c.index_mut.result.now exists (rw c.get.ensures.value at c.index_mut.ensures.value) in
    rw (c.resize.ensures, slot, c.get.ensures.value)
    (IsKept-resized _ c.args.file _ c.args.size
    c.self.invariant (inode_at-existing_file c.self.inside.inodes.items c.args.file exists) enough)
