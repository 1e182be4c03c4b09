use Rattle.std.proofs.Common.{◌≡◌, ℕ, ◌%◌, List, Option, sym}
use Rattle.bd_base.specs.declared.limits.TheConstants.{BLOCK_SIZE}
use Rattle.bd_base.specs.declared.volume.Inode.{Inode}
use Rattle.bd_base.specs.Inodes.{existing_file}
use Rattle.bd_base.proofs.FileLists.{slot-is}
use Rattle.bd_fs.proofs.Growth.{growth_block-block, takes_at}
use Rattle.bd_fs.proofs.fs.Fs.next_block.Goals as goal

pub returns : goal.returns
returns c =
    let exists = rw (← c.self.view_is) at c.requires in
    let files : List (Option Inode) = c.self.inside.inodes.items in
    let id : ℕ = c.args.file in
    let total : ℕ = c.self.inside.total in
    let read = slot-is files id c.index.result.now exists (rw c.get.ensures.value at c.index.ensures) in
    let file_is = rw (← c.self.view_is) at c.existing_inode.ensures.file in
    let full : (existing_file files id).size % BLOCK_SIZE ≡ 0 = rw file_is at c.if-existing_inode-ne0.false in
    let takes = takes_at _ c.self.invariant id exists c.index.result.now read c.last_of-last.result c.last_of-last.ensures in
    rw (← c.self.view_is) (sym (growth_block-block total files (existing_file files id) c.peek.result full (takes c.peek.result c.peek.ensures.block)))
