-- An engine reads the entry of its address.
use Rattle.std.proofs.Common.{◌≡◌, ◌%◌, Some, ap, sym, ◌∙◌, subst, set, refl}
use Rattle.std.specs.FinMap as fin
use Rattle.std.specs.Option.{IsSome, option_map}
use Rattle.std.proofs.lemmas.Option.{same_Some}
use Rattle.bd_base.specs.declared.limits.TheConstants.{PART_BLOCKS}
use Rattle.bd_file_table.specs.Fragments.{cell_at, number_of}
use Rattle.bd_tables.specs.declared.request.Request.{Request}
use Rattle.bd_tables.specs.declared.state.Right.{Right}
use Rattle.bd_tables.specs.declared.state.Walk.{Walk}
use Rattle.bd_tables.specs.Effects.{read_entry, read_walk}
use Rattle.bd_tables.specs.Kept.{IsKept, state_inside}
use Rattle.bd_tables.specs.Plain.{PlainState, place_at, tables_of, walked_of}
use Rattle.bd_tables.specs.State.{found_reading, lookup, pair_under}
use Rattle.bd_tables.proofs.Engine.{entry_of, lookup-entry}
use Rattle.bd_tables.proofs.KeptPlain.{kept-read, tables-read}
use Rattle.bd_tables.proofs.plain.engine.PlainTablesEngineSide.read_entry.Goals as goal

pub unwrap-right-requires : goal.unwrap-right-requires
unwrap-right-requires g c =
    let plain : PlainState = state_inside c.self.inside in
    let directory = c.self.inside.directory in
    let request : Request = c.request_entered-request.result in
    let lent : place_at plain.places c.args.pass.process ≡ Some c.args.pass.walk =
    ap (λ (plain : PlainState). place_at plain.places c.args.pass.process) c.self.view_is ∙ c.requires.is_of in
    let entry = entry_of plain directory c.self.invariant c.args.pass.process c.args.pass.walk lent request c.request_entered-request.ensures in
    subst (λ v. IsSome v) (sym (c.get.ensures ∙ entry.has)) refl

pub unwrap-fragment-requires : goal.unwrap-fragment-requires
unwrap-fragment-requires g c =
    let plain : PlainState = state_inside c.self.inside in
    let directory = c.self.inside.directory in
    let request : Request = c.request_entered-request.result in
    let lent : place_at plain.places c.args.pass.process ≡ Some c.args.pass.walk =
    ap (λ (plain : PlainState). place_at plain.places c.args.pass.process) c.self.view_is ∙ c.requires.is_of in
    let entry = entry_of plain directory c.self.invariant c.args.pass.process c.args.pass.walk lent request c.request_entered-request.ensures in
    let right : c.unwrap-right.result ≡ entry.right = same_Some _ _ (sym c.unwrap-right.ensures ∙ c.get.ensures ∙ entry.has) in
    let there = ap (λ (r : Right). fin.get plain.book (pair_under request.key r)) right ∙ entry.is in
    subst (λ v. IsSome v) (sym (c.of.ensures.number ∙ ap (option_map number_of) there)) refl

pub invariant_of-self : goal.invariant_of-self
invariant_of-self g c =
    let plain : PlainState = state_inside c.self.inside in
    let directory = c.self.inside.directory in
    let request : Request = c.request_entered-request.result in
    let lent : place_at plain.places c.args.pass.process ≡ Some c.args.pass.walk =
    ap (λ (plain : PlainState). place_at plain.places c.args.pass.process) c.self.view_is ∙ c.requires.is_of in
    let entry = entry_of plain directory c.self.invariant c.args.pass.process c.args.pass.walk lent request c.request_entered-request.ensures in
    let right : c.unwrap-right.result ≡ entry.right = same_Some _ _ (sym c.unwrap-right.ensures ∙ c.get.ensures ∙ entry.has) in
    let there : fin.get plain.book (pair_under request.key c.unwrap-right.result) ≡ Some entry.fragment =
    ap (λ (r : Right). fin.get plain.book (pair_under request.key r)) right ∙ entry.is in
    let number : entry.fragment.number ≡ c.unwrap-fragment.result =
    same_Some _ _ (sym (ap (option_map number_of) there) ∙ sym c.of.ensures.number ∙ c.unwrap-fragment.ensures) in
    let cell : c.cell-cell.result ≡ lookup (tables_of plain) request.key request.index =
    c.cell-cell.ensures (pair_under request.key c.unwrap-right.result) entry.fragment there number
    ∙ ap (λ n. cell_at entry.fragment.cells (n % PART_BLOCKS)) c.from-index.ensures
    ∙ sym (lookup-entry plain request.key request.index entry) in
    let walk : c.read-walk.result.0 ≡ read_walk request (lookup (tables_of plain) request.key request.index) =
    c.read-walk.ensures.walk ∙ ap (read_walk request) cell in
    subst (λ (walk : Walk). IsKept (record plain { places = set plain.places c.get-2.result (Some walk) }) directory) (sym walk)
    (subst (λ n. IsKept (record plain {
      places = set plain.places n (Some (read_walk request (lookup (tables_of plain) request.key request.index)));
    }) directory) (sym c.get-2.ensures.value)
    (kept-read plain directory c.self.invariant c.args.pass.process c.args.pass.walk lent request c.request_entered-request.ensures))

pub returns-clause-answer : goal.returns-clause-answer
returns-clause-answer g c =
    λ other is.
    let plain : PlainState = state_inside c.self.inside in
    let directory = c.self.inside.directory in
    let request : Request = c.request_entered-request.result in
    let lent : place_at plain.places c.args.pass.process ≡ Some c.args.pass.walk =
    ap (λ (plain : PlainState). place_at plain.places c.args.pass.process) c.self.view_is ∙ c.requires.is_of in
    let entry = entry_of plain directory c.self.invariant c.args.pass.process c.args.pass.walk lent request c.request_entered-request.ensures in
    let right : c.unwrap-right.result ≡ entry.right = same_Some _ _ (sym c.unwrap-right.ensures ∙ c.get.ensures ∙ entry.has) in
    let there : fin.get plain.book (pair_under request.key c.unwrap-right.result) ≡ Some entry.fragment =
    ap (λ (r : Right). fin.get plain.book (pair_under request.key r)) right ∙ entry.is in
    let number : entry.fragment.number ≡ c.unwrap-fragment.result =
    same_Some _ _ (sym (ap (option_map number_of) there) ∙ sym c.of.ensures.number ∙ c.unwrap-fragment.ensures) in
    let cell : c.cell-cell.result ≡ lookup (tables_of plain) request.key request.index =
    c.cell-cell.ensures (pair_under request.key c.unwrap-right.result) entry.fragment there number
    ∙ ap (λ n. cell_at entry.fragment.cells (n % PART_BLOCKS)) c.from-index.ensures
    ∙ sym (lookup-entry plain request.key request.index entry) in
    let same : request ≡ other = cc (c.request_entered-request.ensures, is) in
    c.read-walk.ensures.walked ∙ ap (λ v. walked_of (found_reading request.hi v)) cell
    ∙ ap (λ (r : Request). walked_of (found_reading r.hi (lookup (tables_of plain) r.key r.index))) same
    ∙ ap (λ (plain : PlainState). walked_of (found_reading other.hi (lookup (tables_of plain) other.key other.index))) c.self.view_is

pub returns-clause-tables : goal.returns-clause-tables
returns-clause-tables g c =
    λ other is.
    let plain : PlainState = state_inside c.self.inside in
    let directory = c.self.inside.directory in
    let request : Request = c.request_entered-request.result in
    let lent : place_at plain.places c.args.pass.process ≡ Some c.args.pass.walk =
    ap (λ (plain : PlainState). place_at plain.places c.args.pass.process) c.self.view_is ∙ c.requires.is_of in
    let entry = entry_of plain directory c.self.invariant c.args.pass.process c.args.pass.walk lent request c.request_entered-request.ensures in
    let right : c.unwrap-right.result ≡ entry.right = same_Some _ _ (sym c.unwrap-right.ensures ∙ c.get.ensures ∙ entry.has) in
    let there : fin.get plain.book (pair_under request.key c.unwrap-right.result) ≡ Some entry.fragment =
    ap (λ (r : Right). fin.get plain.book (pair_under request.key r)) right ∙ entry.is in
    let number : entry.fragment.number ≡ c.unwrap-fragment.result =
    same_Some _ _ (sym (ap (option_map number_of) there) ∙ sym c.of.ensures.number ∙ c.unwrap-fragment.ensures) in
    let cell : c.cell-cell.result ≡ lookup (tables_of plain) request.key request.index =
    c.cell-cell.ensures (pair_under request.key c.unwrap-right.result) entry.fragment there number
    ∙ ap (λ n. cell_at entry.fragment.cells (n % PART_BLOCKS)) c.from-index.ensures
    ∙ sym (lookup-entry plain request.key request.index entry) in
    let same : request ≡ other = cc (c.request_entered-request.ensures, is) in
    let walk : c.read-walk.result.0 ≡ read_walk request (lookup (tables_of plain) request.key request.index) =
    c.read-walk.ensures.walk ∙ ap (read_walk request) cell in
    ap (λ (walk : Walk). tables_of (record plain { places = set plain.places c.get-2.result (Some walk) })) walk
    ∙ ap (λ n. tables_of (record plain { places = set plain.places n (Some (read_walk request (lookup (tables_of plain) request.key request.index))) }))
    c.get-2.ensures.value
    ∙ tables-read plain directory c.self.invariant c.args.pass.process c.args.pass.walk lent request c.request_entered-request.ensures
    ∙ ap (read_entry (tables_of plain)) same
    ∙ ap (λ (plain : PlainState). read_entry (tables_of plain) other) c.self.view_is
