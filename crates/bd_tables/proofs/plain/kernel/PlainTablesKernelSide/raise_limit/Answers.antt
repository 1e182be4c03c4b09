-- One entry of the book changes.
use Rattle.std.proofs.Common.{ap, sym, ◌∙◌, subst}
use Rattle.bd_file_table.specs.Fragments.{Book}
use Rattle.bd_tables.specs.Effects.{raise_limit}
use Rattle.bd_tables.specs.Kernel.{IsEntryUpTo}
use Rattle.bd_tables.specs.Kept.{IsKept, state_inside}
use Rattle.bd_tables.specs.Plain.{PlainState, tables_of}
use Rattle.bd_tables.proofs.KeptPlain.{kept-raise, past-none, tables-raise}
use Rattle.bd_tables.proofs.plain.kernel.PlainTablesKernelSide.raise_limit.Goals as goal

pub raise_entry-requires-clause-parts : goal.raise_entry-requires-clause-parts
raise_entry-requires-clause-parts c = past-none (state_inside c.self.inside) c.self.inside.directory c.self.invariant c.args.file c.args.index

pub invariant_of-self : goal.invariant_of-self
invariant_of-self c =
    let plain : PlainState = state_inside c.self.inside in
    let filled = subst (λ (plain : PlainState). IsEntryUpTo plain.book c.args.file c.args.index c.args.limit) (sym c.self.view_is) c.requires.filled in
    subst (λ (book : Book). IsKept (record plain { book = book }) c.self.inside.directory) (sym c.raise_entry.ensures)
    (kept-raise plain c.self.inside.directory c.self.invariant c.args.file c.args.index c.args.limit filled)

pub returns-clause-tables : goal.returns-clause-tables
returns-clause-tables c =
    let plain : PlainState = state_inside c.self.inside in
    ap (λ (book : Book). tables_of (record plain { book = book })) c.raise_entry.ensures
    ∙ tables-raise plain c.self.inside.directory c.self.invariant c.args.file c.args.index c.args.limit
    ∙ ap (λ (plain : PlainState). raise_limit (tables_of plain) c.args.file c.args.index c.args.limit) c.self.view_is
