use Rattle.std.proofs.Common.{◌∙◌, sym}
use Rattle.bd_base.specs.Inodes.{existing_file}
use Rattle.bd_base.proofs.FileLists.{inode_at-existing_file}
use Rattle.bd_base.proofs.Takes.{enough_grown, enough_within}
use Rattle.bd_fs.proofs.fs.Fs.grow_one.Goals as goal

pub set_size-requires-clause-enough_blocks : goal.set_size-requires-clause-enough_blocks
set_size-requires-clause-enough_blocks c =
    let files = c.args.self.now.files in
    let valid = c.in_ok-block.ensures.valid.each c.args.file (existing_file files c.args.file) (inode_at-existing_file files c.args.file c.requires.exists) in
    enough_within c.args.self.now.total files (existing_file files c.args.file) c.args.to c.args.to
    c.in_ok-block.ensures.planned.0 (sym c.in_ok-block.ensures.planned.1 ∙ c.in_default.is)
    valid.enough_blocks c.requires.larger c.requires.one_block

pub add_block-requires-clause-enough_blocks : goal.add_block-requires-clause-enough_blocks
add_block-requires-clause-enough_blocks c =
    let files = c.args.self.now.files in
    let valid = c.in_ok-block.ensures.valid.each c.args.file (existing_file files c.args.file) (inode_at-existing_file files c.args.file c.requires.exists) in
    enough_grown c.args.self.now.total files (existing_file files c.args.file) c.args.to c.in-Some.block (sym c.in_ok-block.ensures.planned.1 ∙ c.in-Some.is)
    valid.enough_blocks c.requires.larger c.requires.one_block
