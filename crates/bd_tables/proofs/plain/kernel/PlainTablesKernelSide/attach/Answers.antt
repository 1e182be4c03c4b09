-- A right is attached.
use Rattle.std.proofs.Common.{◌≡◌, None, ap, sym, ◌∙◌, subst}
use Rattle.std.specs.FinMap as fin
use Rattle.bd_directory.specs.Entries.{EntryList}
use Rattle.bd_file_table.specs.Fragments.{Book}
use Rattle.bd_tables.specs.Effects.{attach, attach_right}
use Rattle.bd_tables.specs.Kept.{IsKept, state_inside}
use Rattle.bd_tables.specs.Plain.{PlainState, tables_of}
use Rattle.bd_tables.specs.State.{Rights}
use Rattle.bd_tables.proofs.KeptPlain.{kept-attach, tables-attach}
use Rattle.bd_tables.proofs.plain.kernel.PlainTablesKernelSide.attach.Goals as goal

pub invariant_of-self-2 : goal.invariant_of-self-2
invariant_of-self-2 c =
    let plain : PlainState = state_inside c.self.inside in
    let none : fin.get plain.rights c.args.key ≡ None =
    ap (λ (plain : PlainState). fin.get plain.rights c.args.key) c.self.view_is ∙ c.requires.not_attached in
    let book : Book = c.share_or_build.new.pool in
    subst (λ (rights : Rights). IsKept (record plain { rights = rights; book = book }) c.attach-2.new.self) (sym c.attach.ensures.attached)
    (subst (λ (directory : EntryList). IsKept (record plain { rights = attach_right plain.rights c.args.key c.args.file c.args.write; book = book }) directory)
    (sym c.attach-2.ensures)
    (kept-attach plain c.self.inside.directory c.self.invariant c.args.key c.attach.ensures.key c.args.file c.args.write none c.args.cells.now book
    c.in_ok-fragment.ensures.book c.in_ok-fragment.fragment c.in_ok-fragment.ensures.number))

pub returns-clause-tables : goal.returns-clause-tables
returns-clause-tables c =
    let plain : PlainState = state_inside c.self.inside in
    let book : Book = c.share_or_build.new.pool in
    ap (λ (rights : Rights). tables_of (record plain { rights = rights; book = book })) c.attach.ensures.attached
    ∙ tables-attach plain c.self.inside.directory c.self.invariant c.args.key c.args.file c.args.write c.args.cells.now book c.in_ok-fragment.ensures.book
    ∙ ap (λ (plain : PlainState). attach (tables_of plain) c.args.key c.args.file c.args.write c.args.cells.now) c.self.view_is
