use Rattle.std.proofs.Common.{arith}
use Rattle.bd_fs.proofs.NoFiles.{AreValidFiles-none}
use Rattle.bd_kernel.proofs.tests.no_files.Goals as goal

pub new-requires : goal.new-requires
new-requires c = rw c.in_ok-free_ids.ensures (AreValidFiles-none c.args.total 16 c.requires (omega arith))
