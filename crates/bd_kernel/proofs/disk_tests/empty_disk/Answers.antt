use Rattle.std.proofs.Common.{arith}
use Rattle.bd_fs.proofs.NoFiles.{AreValidFiles-none}
use Rattle.bd_kernel.proofs.disk_tests.empty_disk.Goals as goal

pub new-requires-clause-files : goal.new-requires-clause-files
new-requires-clause-files c = rw c.in_ok-free_ids.ensures (AreValidFiles-none 20 16 (omega arith) (omega arith))
