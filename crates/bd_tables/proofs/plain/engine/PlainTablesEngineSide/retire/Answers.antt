-- An engine leaves its key.
use Rattle.std.proofs.Common.{◌≡◌, Some, ap, sym, ◌∙◌, subst, set}
use Rattle.bd_directory.specs.Entries.{EntryList}
use Rattle.bd_tables.specs.declared.state.Walk.TheVariants.{Idle}
use Rattle.bd_tables.specs.Effects.{retire}
use Rattle.bd_tables.specs.Kept.{IsKept, state_inside}
use Rattle.bd_tables.specs.Plain.{PlainState, place_at, tables_of}
use Rattle.bd_tables.proofs.KeptPlain.{kept-retire, some-inside, tables-retire}
use Rattle.bd_tables.proofs.plain.engine.PlainTablesEngineSide.retire.Goals as goal

pub retire-requires : goal.retire-requires
retire-requires g c =
    let plain : PlainState = state_inside c.self.inside in
    let lent : place_at plain.places c.args.pass.process ≡ Some c.args.pass.walk =
    ap (λ (plain : PlainState). place_at plain.places c.args.pass.process) c.self.view_is ∙ c.requires.is_of in
    some-inside plain c.self.inside.directory c.self.invariant c.args.pass.process c.args.pass.walk lent c.request_answered-request.result
    c.request_answered-request.ensures

pub invariant_of-self : goal.invariant_of-self
invariant_of-self g c =
    let plain : PlainState = state_inside c.self.inside in
    let lent : place_at plain.places c.args.pass.process ≡ Some c.args.pass.walk =
    ap (λ (plain : PlainState). place_at plain.places c.args.pass.process) c.self.view_is ∙ c.requires.is_of in
    subst (λ n. IsKept (record plain { places = set plain.places n (Some Idle) }) c.retire.new.self) (sym c.get.ensures.value)
    (subst (λ (directory : EntryList). IsKept (record plain { places = set plain.places c.args.pass.process (Some Idle) }) directory) (sym c.retire.ensures)
    (kept-retire plain c.self.inside.directory c.self.invariant c.args.pass.process c.args.pass.walk lent c.request_answered-request.result
    c.request_answered-request.ensures))

pub returns-clause-tables : goal.returns-clause-tables
returns-clause-tables g c =
    let plain : PlainState = state_inside c.self.inside in
    let lent : place_at plain.places c.args.pass.process ≡ Some c.args.pass.walk =
    ap (λ (plain : PlainState). place_at plain.places c.args.pass.process) c.self.view_is ∙ c.requires.is_of in
    ap (λ n. tables_of (record plain { places = set plain.places n (Some Idle) })) c.get.ensures.value
    ∙ tables-retire plain c.self.inside.directory c.self.invariant c.args.pass.process c.args.pass.walk lent
    ∙ ap (λ (plain : PlainState). retire (tables_of plain) c.args.pass.process) c.self.view_is
