-- One entry of the book changes.
use Rattle.std.proofs.Common.{ap, sym, ◌∙◌, subst}
use Rattle.bd_file_table.specs.Fragments.{Book}
use Rattle.bd_tables.specs.Effects.{put_entry}
use Rattle.bd_tables.specs.Kernel.{IsEmptyEntry}
use Rattle.bd_tables.specs.Kept.{IsKept, state_inside}
use Rattle.bd_tables.specs.Plain.{PlainState, tables_of}
use Rattle.bd_tables.proofs.KeptPlain.{kept-put, past-none, tables-put}
use Rattle.bd_tables.proofs.plain.kernel.PlainTablesKernelSide.put_entry.Goals as goal

pub fill_entry-requires : goal.fill_entry-requires
fill_entry-requires c = past-none (state_inside c.self.inside) c.self.inside.directory c.self.invariant c.args.file c.args.index

pub invariant_of-self : goal.invariant_of-self
invariant_of-self c =
    let plain : PlainState = state_inside c.self.inside in
    let empty = subst (λ (plain : PlainState). IsEmptyEntry plain.book c.args.file c.args.index) (sym c.self.view_is) c.requires.empty in
    subst (λ (book : Book). IsKept (record plain { book = book }) c.self.inside.directory) (sym c.fill_entry.ensures)
    (kept-put plain c.self.inside.directory c.self.invariant c.args.file c.args.index c.args.cell empty)

pub returns-clause-tables : goal.returns-clause-tables
returns-clause-tables c =
    let plain : PlainState = state_inside c.self.inside in
    ap (λ (book : Book). tables_of (record plain { book = book })) c.fill_entry.ensures
    ∙ tables-put plain c.self.inside.directory c.self.invariant c.args.file c.args.index c.args.cell
    ∙ ap (λ (plain : PlainState). put_entry (tables_of plain) c.args.file c.args.index c.args.cell) c.self.view_is
