use Rattle.std.proofs.Common.{sym}
use Rattle.bd_kernel.proofs.place.size_of.Goals as goal

pub returns-in-Some-clause-in_range : goal.returns-in-Some-clause-in_range
returns-in-Some-clause-in_range c =
    (c.in-Some.ensures.valid.each c.args.file c.in-Some.inode.now (sym c.in-Some.ensures.found)).size_in_range
