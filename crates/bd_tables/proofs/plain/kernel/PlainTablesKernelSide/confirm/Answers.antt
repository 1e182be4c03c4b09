-- A translation that an engine holds repeats an entry under an attached right.
use Rattle.std.proofs.Common.{◌≡◌, Some, ap, ◌∙◌, subst}
use Rattle.bd_tables.specs.Kernel.{IsConfirmed}
use Rattle.bd_tables.specs.Kept.{state_inside}
use Rattle.bd_tables.specs.Plain.{PlainState, kernel_of, place_at}
use Rattle.bd_tables.proofs.Told.{confirms}
use Rattle.bd_tables.proofs.plain.kernel.PlainTablesKernelSide.confirm.Goals as goal

pub returns-clause-confirmed : goal.returns-clause-confirmed
returns-clause-confirmed c =
    let plain : PlainState = state_inside c.self.inside in
    let lent : place_at plain.places c.args.pass.process ≡ Some c.args.pass.walk =
    ap (λ (plain : PlainState). place_at plain.places c.args.pass.process) c.self.view_is ∙ c.requires.is_of in
    subst (λ (plain : PlainState). IsConfirmed (kernel_of plain) c.args.pass.walk) c.self.view_is
    (confirms plain c.self.invariant.sound c.args.pass.process c.args.pass.walk lent c.requires.translated)
