-- A translation that an engine holds serves what it asked for.
use Rattle.std.proofs.Common.{◌≡◌, Some, ap, ◌∙◌}
use Rattle.bd_tables.specs.Kept.{state_inside}
use Rattle.bd_tables.specs.Plain.{PlainState, place_at}
use Rattle.bd_tables.proofs.Told.{told_serves}
use Rattle.bd_tables.proofs.plain.PlainTablesTables.told.Goals as goal

pub returns-in-Translated-clause-serves : goal.returns-in-Translated-clause-serves
returns-in-Translated-clause-serves c =
    let plain : PlainState = state_inside c.self.inside in
    let process = c.args.pass.now.process in
    let walk = c.args.pass.now.walk in
    let lent : place_at plain.places process ≡ Some walk =
    ap (λ (plain : PlainState). place_at plain.places process) c.self.view_is ∙ c.requires in
    told_serves plain c.self.invariant.sound process walk lent
