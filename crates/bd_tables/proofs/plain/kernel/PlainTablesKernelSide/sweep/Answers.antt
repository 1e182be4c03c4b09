-- One line more was swept.
use Rattle.std.proofs.Common.{sym, subst}
use Rattle.bd_lines.specs.Lines.{LineList}
use Rattle.bd_tables.specs.Effects.{sweep_right}
use Rattle.bd_tables.specs.Kernel.{IsDrained, KeyIs}
use Rattle.bd_tables.specs.Kept.{IsKept, state_inside}
use Rattle.bd_tables.specs.Plain.{PlainState, kernel_of}
use Rattle.bd_tables.specs.State.{Rights}
use Rattle.bd_tables.proofs.KeptPlain.{kept-sweep}
use Rattle.bd_tables.proofs.plain.kernel.PlainTablesKernelSide.sweep.Goals as goal

pub invariant_of-self : goal.invariant_of-self
invariant_of-self c =
    let plain : PlainState = state_inside c.self.inside in
    let drained = subst (λ (plain : PlainState). KeyIs IsDrained (kernel_of plain) c.args.key) (sym c.self.view_is) c.requires.drained in
    subst (λ (rights : Rights). IsKept (record plain { rights = rights; lines = c.sweep-2.new.self }) c.self.inside.directory) (sym c.sweep.ensures.swept)
    (subst (λ (lines : LineList). IsKept (record plain { rights = sweep_right plain.rights c.args.line c.args.key; lines = lines }) c.self.inside.directory)
    (sym c.sweep-2.ensures) (kept-sweep plain c.self.inside.directory c.self.invariant c.args.key c.sweep.ensures.key c.args.line c.requires.line drained))
