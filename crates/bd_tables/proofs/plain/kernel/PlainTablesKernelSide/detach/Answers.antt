-- A right is detached.
use Rattle.std.proofs.Common.{◌≡◌, nat_eq, cond, Some, ap, sym, ◌∙◌, subst, refl}
use Rattle.std.specs.FinMap as fin
use Rattle.std.specs.Option.{IsSome}
use Rattle.bd_file_table.specs.Fragments.{Book}
use Rattle.bd_tables.specs.declared.state.Right.{Right}
use Rattle.bd_tables.specs.Effects.{detach, drop_unused}
use Rattle.bd_tables.specs.Kernel.{IsAttachedIn, IsSweptWhole, KeyIs}
use Rattle.bd_tables.specs.Kept.{IsKept, state_inside}
use Rattle.bd_tables.specs.Plain.{PlainState, kernel_of, tables_of}
use Rattle.bd_tables.specs.State.{Rights, pair_under, users}
use Rattle.bd_tables.proofs.Kept.{shared_by}
use Rattle.bd_tables.proofs.KeptPlain.{kept-detach, tables-detach}
use Rattle.bd_tables.proofs.plain.kernel.PlainTablesKernelSide.detach.Goals as goal

pub drop_unused-requires : goal.drop_unused-requires
drop_unused-requires c =
    let plain : PlainState = state_inside c.self.inside in
    let right : Right = c.unwrap-right.result in
    let has : fin.get plain.rights c.args.key ≡ Some right = sym c.get.ensures ∙ c.unwrap-right.ensures in
    let shared = shared_by plain.rights plain.book c.self.invariant.in_use c.args.key right has c.detach.ensures.key in
    subst (λ v. IsSome v) (sym shared.is) refl

pub invariant_of-self : goal.invariant_of-self
invariant_of-self c =
    let plain : PlainState = state_inside c.self.inside in
    let right : Right = c.unwrap-right.result in
    let has : fin.get plain.rights c.args.key ≡ Some right = sym c.get.ensures ∙ c.unwrap-right.ensures in
    let rights : Rights = fin.remove plain.rights c.args.key in
    let book : c.drop_unused.new.pool ≡ drop_unused rights (pair_under c.args.key right) plain.book =
    c.drop_unused.ensures ∙ ap (λ n. cond (nat_eq n 0) (fin.remove plain.book (pair_under c.args.key right)) plain.book)
    (c.users-users.ensures ∙ ap (λ (rights : Rights). users rights (pair_under c.args.key right)) c.detach.ensures.detached) in
    let whole = subst (λ (plain : PlainState). KeyIs IsSweptWhole (kernel_of plain) c.args.key) (sym c.self.view_is) c.requires in
    subst (λ (rights : Rights). IsKept (record plain { rights = rights; book = c.drop_unused.new.pool }) c.self.inside.directory)
    (sym c.detach.ensures.detached)
    (subst (λ (book : Book). IsKept (record plain { rights = rights; book = book }) c.self.inside.directory) (sym book)
    (kept-detach plain c.self.inside.directory c.self.invariant c.args.key right has (subst (IsAttachedIn IsSweptWhole) has whole)))

pub returns-clause-tables : goal.returns-clause-tables
returns-clause-tables c =
    let plain : PlainState = state_inside c.self.inside in
    let right : Right = c.unwrap-right.result in
    let has : fin.get plain.rights c.args.key ≡ Some right = sym c.get.ensures ∙ c.unwrap-right.ensures in
    let rights : Rights = fin.remove plain.rights c.args.key in
    let book : c.drop_unused.new.pool ≡ drop_unused rights (pair_under c.args.key right) plain.book =
    c.drop_unused.ensures ∙ ap (λ n. cond (nat_eq n 0) (fin.remove plain.book (pair_under c.args.key right)) plain.book)
    (c.users-users.ensures ∙ ap (λ (rights : Rights). users rights (pair_under c.args.key right)) c.detach.ensures.detached) in
    ap (λ (rights : Rights). tables_of (record plain { rights = rights; book = c.drop_unused.new.pool })) c.detach.ensures.detached
    ∙ ap (λ (book : Book). tables_of (record plain { rights = rights; book = book })) book
    ∙ tables-detach plain c.self.inside.directory c.self.invariant c.args.key right has
    ∙ ap (λ (plain : PlainState). detach (tables_of plain) c.args.key) c.self.view_is
