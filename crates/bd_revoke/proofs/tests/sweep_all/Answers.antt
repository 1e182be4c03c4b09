-- One line after the other is swept.
use Rattle.std.proofs.Common.{ap, sym, ◌∙◌, subst}
use Rattle.bd_tables.specs.Kernel.{IsDrained, KernelState, KeyIs, line_swept}
use Rattle.bd_tables.proofs.Sweeps.{lines_swept-drained, lines_swept-suc, lines_swept-zero}
use Rattle.bd_revoke.proofs.tests.sweep_all.Goals as goal

pub loop-line-init : goal.loop-line-init
loop-line-init g c = sym (lines_swept-zero (g.T.KernelSide.kernel c.args.tables.now) c.args.key.now)

pub sweep-requires-clause-drained : goal.sweep-requires-clause-drained
sweep-requires-clause-drained g c =
    subst (λ (kernel : KernelState). KeyIs IsDrained kernel c.args.key.now) (sym c.loop-line.invariant)
    (lines_swept-drained (g.T.KernelSide.kernel c.args.tables.now) c.loop-line.line c.args.key.now c.requires)

pub loop-line-preserved : goal.loop-line-preserved
loop-line-preserved g c =
    c.sweep.ensures.swept
    ∙ ap (λ (kernel : KernelState). line_swept kernel c.loop-line.line c.args.key.now) c.loop-line.invariant
    ∙ sym (lines_swept-suc (g.T.KernelSide.kernel c.args.tables.now) c.loop-line.line c.args.key.now)
