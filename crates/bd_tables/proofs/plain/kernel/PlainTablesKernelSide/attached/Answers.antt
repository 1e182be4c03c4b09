-- A key is attached where it has a right.
use Rattle.std.proofs.Common.{ap, ◌∙◌, is_some}
use Rattle.std.specs.FinMap as fin
use Rattle.bd_tables.specs.Plain.{PlainState}
use Rattle.bd_tables.proofs.plain.kernel.PlainTablesKernelSide.attached.Goals as goal

pub returns : goal.returns
returns c =
    c.is_some.ensures ∙ ap is_some c.get.ensures ∙ ap (λ (plain : PlainState). is_some (fin.get plain.rights c.args.key)) c.self.view_is
