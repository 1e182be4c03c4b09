-- A cleared key is drained, swept and detached.
use Rattle.std.proofs.Common.{◌≡◌, ap, sym, ◌∙◌, subst}
use Rattle.bd_tables.specs.declared.state.RightState.TheVariants.{Drained}
use Rattle.bd_tables.specs.Effects.{none_swept}
use Rattle.bd_tables.specs.Kernel.{IsDrained, IsSweptWhole, KernelState, KeyIs, key_detached, key_in_state}
use Rattle.bd_tables.specs.Sweeps.{lines_swept}
use Rattle.bd_tables.proofs.Sweeps.{cleared-drained, drained_whole-key, key_detached-drained}
use Rattle.bd_revoke.proofs.tests.invalidate.Goals as goal

pub sweep_all-requires : goal.sweep_all-requires
sweep_all-requires g c =
    subst (λ (kernel : KernelState). KeyIs IsDrained kernel c.args.key.now) (sym (c.drained.ensures.yes c.in-Yes.is))
    (cleared-drained (g.T.KernelSide.kernel c.args.tables.now) c.args.key.now c.requires)

pub detach-requires : goal.detach-requires
detach-requires g c =
    let kernel : KernelState = g.T.KernelSide.kernel c.args.tables.now in
    let whole : g.T.KernelSide.kernel c.sweep_all.new.tables ≡ lines_swept (key_in_state kernel c.args.key.now (Drained none_swept)) 16 c.args.key.now =
    c.sweep_all.ensures ∙ ap (λ (k : KernelState). lines_swept k 16 c.args.key.now) (c.drained.ensures.yes c.in-Yes.is) in
    subst (λ (k : KernelState). KeyIs IsSweptWhole k c.args.key.now) (sym whole) (drained_whole-key kernel c.args.key.now c.requires)

pub returns-in-Yes : goal.returns-in-Yes
returns-in-Yes g c =
    λ yes_.
    let kernel : KernelState = g.T.KernelSide.kernel c.args.tables.now in
    let whole : g.T.KernelSide.kernel c.sweep_all.new.tables ≡ lines_swept (key_in_state kernel c.args.key.now (Drained none_swept)) 16 c.args.key.now =
    c.sweep_all.ensures ∙ ap (λ (k : KernelState). lines_swept k 16 c.args.key.now) (c.drained.ensures.yes c.in-Yes.is) in
    c.detach.ensures.detached ∙ ap (λ (k : KernelState). key_detached k c.args.key.now) whole ∙ key_detached-drained kernel c.args.key.now
