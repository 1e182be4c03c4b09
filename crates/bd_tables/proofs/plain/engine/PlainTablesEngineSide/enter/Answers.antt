-- An engine enters a key.
use Rattle.std.proofs.Common.{◌≡◌, Some, ap, sym, ◌∙◌, subst, set}
use Rattle.std.specs.FinMap as fin
use Rattle.std.specs.Result.{result_err}
use Rattle.bd_directory.specs.Entries.{EntryList}
use Rattle.bd_tables.specs.declared.state.Walk.{Walk}
use Rattle.bd_tables.specs.declared.state.Walk.TheVariants.{Idle}
use Rattle.bd_tables.specs.Effects.{enter, entered_walk}
use Rattle.bd_tables.specs.Kept.{IsKept, state_inside}
use Rattle.bd_tables.specs.Plain.{PlainState, place_at, tables_of, walked_of}
use Rattle.bd_tables.specs.State.{found_entering}
use Rattle.bd_tables.proofs.Engine.{found-enter, numbered_key}
use Rattle.bd_tables.proofs.KeptPlain.{kept-enter, tables-enter, walk_entered}
use Rattle.bd_tables.proofs.plain.engine.PlainTablesEngineSide.enter.Goals as goal

pub invariant_of-self : goal.invariant_of-self
invariant_of-self g c =
    let plain : PlainState = state_inside c.self.inside in
    let directory = c.self.inside.directory in
    let is_key = numbered_key c.args.request.key c.enter.ensures.within c.enter.ensures.key in
    let found : c.err-found.result ≡ found_entering (fin.get plain.rights c.args.request.key) c.args.request.write =
    c.err-found.ensures.value ∙ ap result_err c.enter.ensures.answer
    ∙ found-enter plain directory c.self.invariant c.args.request.key is_key c.args.request.write in
    let walk : c.entered-walk.result.0 ≡ walk_entered plain c.args.request =
    c.entered-walk.ensures.walk ∙ ap (entered_walk c.args.request) found in
    let lent : place_at plain.places c.args.pass.process ≡ Some Idle =
    ap (λ (plain : PlainState). place_at plain.places c.args.pass.process) c.self.view_is ∙ c.requires.is_of ∙ ap Some c.requires.idle in
    subst (λ (walk : Walk). IsKept (record plain { places = set plain.places c.get.result (Some walk) }) c.enter.new.self) (sym walk)
    (subst (λ n. IsKept (record plain { places = set plain.places n (Some (walk_entered plain c.args.request)) }) c.enter.new.self) (sym c.get.ensures.value)
    (subst (λ (after : EntryList). IsKept (record plain { places = set plain.places c.args.pass.process (Some (walk_entered plain c.args.request)) }) after)
    (sym c.enter.ensures.counted)
    (kept-enter plain directory c.self.invariant c.args.pass.process lent c.args.request c.requires.own is_key)))

pub returns-clause-answer : goal.returns-clause-answer
returns-clause-answer g c =
    let plain : PlainState = state_inside c.self.inside in
    let directory = c.self.inside.directory in
    let is_key = numbered_key c.args.request.key c.enter.ensures.within c.enter.ensures.key in
    let found : c.err-found.result ≡ found_entering (fin.get plain.rights c.args.request.key) c.args.request.write =
    c.err-found.ensures.value ∙ ap result_err c.enter.ensures.answer
    ∙ found-enter plain directory c.self.invariant c.args.request.key is_key c.args.request.write in
    c.entered-walk.ensures.walked ∙ ap walked_of found
    ∙ ap (λ (plain : PlainState). walked_of (found_entering (fin.get plain.rights c.args.request.key) c.args.request.write)) c.self.view_is

pub returns-clause-tables : goal.returns-clause-tables
returns-clause-tables g c =
    let plain : PlainState = state_inside c.self.inside in
    let directory = c.self.inside.directory in
    let is_key = numbered_key c.args.request.key c.enter.ensures.within c.enter.ensures.key in
    let found : c.err-found.result ≡ found_entering (fin.get plain.rights c.args.request.key) c.args.request.write =
    c.err-found.ensures.value ∙ ap result_err c.enter.ensures.answer
    ∙ found-enter plain directory c.self.invariant c.args.request.key is_key c.args.request.write in
    let walk : c.entered-walk.result.0 ≡ walk_entered plain c.args.request =
    c.entered-walk.ensures.walk ∙ ap (entered_walk c.args.request) found in
    let lent : place_at plain.places c.args.pass.process ≡ Some Idle =
    ap (λ (plain : PlainState). place_at plain.places c.args.pass.process) c.self.view_is ∙ c.requires.is_of ∙ ap Some c.requires.idle in
    ap (λ (walk : Walk). tables_of (record plain { places = set plain.places c.get.result (Some walk) })) walk
    ∙ ap (λ n. tables_of (record plain { places = set plain.places n (Some (walk_entered plain c.args.request)) })) c.get.ensures.value
    ∙ tables-enter plain directory c.self.invariant c.args.pass.process lent c.args.request c.requires.own
    ∙ ap (λ (plain : PlainState). enter (tables_of plain) c.args.request) c.self.view_is
