-- An entry beside the one that was filled.
use Rattle.std.proofs.Common.{◌≢◌, arith, sym, subst}
use Rattle.bd_tables.specs.Kernel.{IsEntryUpTo, KernelState}
use Rattle.bd_tables.specs.State.{block_pair}
use Rattle.bd_tables.proofs.Bare.{filled-beside}
use Rattle.bd_tables.proofs.tests.grow.Goals as goal

pub raise_limit-requires-clause-filled : goal.raise_limit-requires-clause-filled
raise_limit-requires-clause-filled c =
    let apart : 1 ≢ 2 = omega arith in
    let filled = subst (λ file. IsEntryUpTo c.args.tables.now.book file 1 200) (sym c.in_ok-file.ensures) c.requires.filled in
    subst (λ (kernel : KernelState). IsEntryUpTo kernel.book c.in_ok-file.file 1 200) (sym c.put_entry.ensures.filled)
    (filled-beside c.args.tables.now.book (block_pair c.in_ok-file.file 1) 1 2 200 c.in_ok-cell.field-0 apart filled)
