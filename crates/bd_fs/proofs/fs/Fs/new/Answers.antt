use Rattle.bd_base.proofs.FileLists.{few_extents}
use Rattle.bd_fs.proofs.fs.Fs.new.Goals as goal

pub counts_of-requires : goal.counts_of-requires
counts_of-requires c = rw c.as_slice-files.ensures (few_extents c.args.total c.args.inodes c.requires)
