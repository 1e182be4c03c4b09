-- A right is cleared, drained, swept and detached.
use Rattle.std.proofs.Common.{◌≡◌, ap, sym, ◌∙◌, subst}
use Rattle.bd_lines.specs.declared.lines.TheConstants.{LINES}
use Rattle.bd_tables.specs.declared.state.RightState.TheVariants.{Drained}
use Rattle.bd_tables.specs.Effects.{none_swept}
use Rattle.bd_tables.specs.Kernel.{IsCleared, IsDrained, IsSweptWhole, KernelState, KeyIs, key_detached, key_in_state}
use Rattle.bd_tables.specs.Sweeps.{lines_swept}
use Rattle.bd_tables.proofs.Sweeps.{cleared-drained, key_detached-swept, on-cleared, swept_whole, swept_whole-key}
use Rattle.bd_tables.proofs.tests.revoke.Goals as goal

pub drained-drained-requires : goal.drained-drained-requires
drained-drained-requires g c =
    subst (λ (kernel : KernelState). KeyIs IsCleared kernel c.args.key.now) (sym c.clear.ensures.cleared)
    (on-cleared (g.T.KernelSide.kernel c.args.tables.now) c.args.key.now c.requires)

pub sweep_all-requires : goal.sweep_all-requires
sweep_all-requires g c =
    let cleared = subst (λ (kernel : KernelState). KeyIs IsCleared kernel c.args.key.now) (sym c.clear.ensures.cleared)
    (on-cleared (g.T.KernelSide.kernel c.args.tables.now) c.args.key.now c.requires) in
    subst (λ (kernel : KernelState). KeyIs IsDrained kernel c.args.key.now) (sym (c.drained-drained.ensures.yes c.in-Yes.is))
    (cleared-drained (g.T.KernelSide.kernel c.clear.new.self) c.args.key.now cleared)

pub detach-requires : goal.detach-requires
unfolding swept_whole
detach-requires g c =
    let kernel : KernelState = g.T.KernelSide.kernel c.args.tables.now in
    let whole : g.T.KernelSide.kernel c.sweep_all.new.tables ≡ swept_whole kernel c.args.key.now =
    c.sweep_all.ensures.swept ∙ ap (λ (k : KernelState). lines_swept k LINES c.args.key.now)
    (c.drained-drained.ensures.yes c.in-Yes.is
    ∙ ap (λ (k : KernelState). key_in_state k c.args.key.now (Drained none_swept)) c.clear.ensures.cleared) in
    subst (λ (k : KernelState). KeyIs IsSweptWhole k c.args.key.now) (sym whole) (swept_whole-key kernel c.args.key.now c.requires)

pub returns-in-Yes-clause-revoked : goal.returns-in-Yes-clause-revoked
unfolding swept_whole
returns-in-Yes-clause-revoked g c =
    λ yes_.
    let kernel : KernelState = g.T.KernelSide.kernel c.args.tables.now in
    let whole : g.T.KernelSide.kernel c.sweep_all.new.tables ≡ swept_whole kernel c.args.key.now =
    c.sweep_all.ensures.swept ∙ ap (λ (k : KernelState). lines_swept k LINES c.args.key.now)
    (c.drained-drained.ensures.yes c.in-Yes.is
    ∙ ap (λ (k : KernelState). key_in_state k c.args.key.now (Drained none_swept)) c.clear.ensures.cleared) in
    c.detach.ensures.detached ∙ ap (λ (k : KernelState). key_detached k c.args.key.now) whole ∙ key_detached-swept kernel c.args.key.now
