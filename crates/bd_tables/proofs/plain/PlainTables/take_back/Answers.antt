-- An idle pass is taken back.
use Rattle.std.proofs.Common.{◌≡◌, None, Some, ap, ◌∙◌, set}
use Rattle.std.proofs.lemmas.List.{length-set}
use Rattle.bd_tables.specs.declared.state.Walk.TheVariants.{Idle}
use Rattle.bd_tables.specs.Kept.{state_inside}
use Rattle.bd_tables.specs.Plain.{PlainState, cells_of, place_at, tables_of}
use Rattle.bd_tables.proofs.KeptPlain.{kept-lent}
use Rattle.bd_tables.proofs.Places.{walks_of-none}
use Rattle.bd_tables.proofs.plain.PlainTables.take_back.Goals as goal

pub invariant_of-self : goal.invariant_of-self
invariant_of-self c =
    let plain : PlainState = state_inside c.self.inside in
    let here : place_at plain.places c.get.result ≡ Some Idle =
    ap (place_at plain.places) c.get.ensures.value ∙ ap (λ (plain : PlainState). place_at plain.places c.args.pass.process) c.self.view_is
    ∙ c.requires.lent ∙ ap Some c.requires.idle in
    kept-lent plain c.self.inside.directory c.self.invariant (set plain.places c.get.result None) (walks_of-none plain.places c.get.result here)
    (length-set plain.places c.get.result None)

pub returns-clause-tables : goal.returns-clause-tables
returns-clause-tables c =
    let plain : PlainState = state_inside c.self.inside in
    let here : place_at plain.places c.get.result ≡ Some Idle =
    ap (place_at plain.places) c.get.ensures.value ∙ ap (λ (plain : PlainState). place_at plain.places c.args.pass.process) c.self.view_is
    ∙ c.requires.lent ∙ ap Some c.requires.idle in
    (λ i. record {
      rights = plain.rights;
      cells = cells_of plain.book;
      lines = plain.lines;
      walks = walks_of-none plain.places c.get.result here i;
    })
    ∙ ap tables_of c.self.view_is
