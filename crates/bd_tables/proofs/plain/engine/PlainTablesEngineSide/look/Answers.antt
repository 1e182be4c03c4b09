-- An engine looks into the line of its address.
use Rattle.std.proofs.Common.{◌≡◌, Some, ap, sym, ◌∙◌, subst, set}
use Rattle.bd_lines.specs.Lines.{hit}
use Rattle.bd_tables.specs.declared.request.Request.{Request}
use Rattle.bd_tables.specs.declared.state.Walk.{Walk}
use Rattle.bd_tables.specs.Effects.{look, looked_walk}
use Rattle.bd_tables.specs.Kept.{IsKept, state_inside}
use Rattle.bd_tables.specs.Plain.{PlainState, place_at, tables_of}
use Rattle.bd_tables.proofs.KeptPlain.{kept-look, tables-look}
use Rattle.bd_tables.proofs.plain.engine.PlainTablesEngineSide.look.Goals as goal

pub invariant_of-self : goal.invariant_of-self
invariant_of-self g c =
    let plain : PlainState = state_inside c.self.inside in
    let directory = c.self.inside.directory in
    let request : Request = c.request_entered-request.result in
    let walk : c.looked-walk.result.0 ≡ looked_walk request (hit plain.lines request.key request.index request.hi) =
    c.looked-walk.ensures.walk ∙ ap (looked_walk request) c.look-cell.ensures in
    let lent : place_at plain.places c.args.pass.process ≡ Some c.args.pass.walk =
    ap (λ (plain : PlainState). place_at plain.places c.args.pass.process) c.self.view_is ∙ c.requires.is_of in
    subst (λ (walk : Walk). IsKept (record plain { places = set plain.places c.get.result (Some walk) }) directory) (sym walk)
    (subst (λ n. IsKept (record plain {
      places = set plain.places n (Some (looked_walk request (hit plain.lines request.key request.index request.hi)));
    }) directory) (sym c.get.ensures.value)
    (kept-look plain directory c.self.invariant c.args.pass.process c.args.pass.walk lent request c.request_entered-request.ensures))

pub returns-clause-tables : goal.returns-clause-tables
returns-clause-tables g c =
    λ other is.
    let plain : PlainState = state_inside c.self.inside in
    let directory = c.self.inside.directory in
    let request : Request = c.request_entered-request.result in
    let walk : c.looked-walk.result.0 ≡ looked_walk request (hit plain.lines request.key request.index request.hi) =
    c.looked-walk.ensures.walk ∙ ap (looked_walk request) c.look-cell.ensures in
    let lent : place_at plain.places c.args.pass.process ≡ Some c.args.pass.walk =
    ap (λ (plain : PlainState). place_at plain.places c.args.pass.process) c.self.view_is ∙ c.requires.is_of in
    let same : request ≡ other = cc (c.request_entered-request.ensures, is) in
    ap (λ (walk : Walk). tables_of (record plain { places = set plain.places c.get.result (Some walk) })) walk
    ∙ ap (λ n. tables_of (record plain { places = set plain.places n (Some (looked_walk request (hit plain.lines request.key request.index request.hi))) }))
    c.get.ensures.value
    ∙ tables-look plain directory c.self.invariant c.args.pass.process c.args.pass.walk lent request c.request_entered-request.ensures
    ∙ ap (look (tables_of plain)) same
    ∙ ap (λ (plain : PlainState). look (tables_of plain) other) c.self.view_is
