-- The line holds what the engine holds.
use Rattle.std.proofs.Common.{◌≡◌, Some, ap, sym, ◌∙◌, subst}
use Rattle.bd_lines.specs.Lines.{LineList}
use Rattle.bd_tables.specs.Kept.{IsKept, state_inside}
use Rattle.bd_tables.specs.Plain.{PlainState, place_at}
use Rattle.bd_tables.proofs.KeptPlain.{kept-fill}
use Rattle.bd_tables.proofs.plain.engine.PlainTablesEngineSide.fill.Goals as goal

pub invariant_of-self : goal.invariant_of-self
invariant_of-self g c =
    let plain : PlainState = state_inside c.self.inside in
    let lent : place_at plain.places c.args.pass.process ≡ Some c.args.pass.walk =
    ap (λ (plain : PlainState). place_at plain.places c.args.pass.process) c.self.view_is ∙ c.requires.is_of in
    subst (λ (lines : LineList). IsKept (record plain { lines = lines }) c.self.inside.directory) (sym c.fill.ensures)
    (kept-fill plain c.self.inside.directory c.self.invariant c.args.pass.process c.args.pass.walk lent c.held-request.result.0 c.held-request.result.1
    c.held-request.ensures)
