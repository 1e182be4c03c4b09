-- A step that waits changes nothing.
use Rattle.std.proofs.Common.{◌≡◌, arith, ap, sym, ◌∙◌, subst}
use Rattle.std.specs.Prelude.{Option, IfSome}
use Rattle.bd_base.specs.declared.key.Key.{Key}
use Rattle.bd_tables.specs.Kernel.{IsOn, KeyIs}
use Rattle.bd_revoke.specs.declared.turn.RevokeTurn.{RevokeTurn}
use Rattle.bd_revoke.specs.Revocation.{first_to_clear}
use Rattle.bd_revoke.specs.Turns.{after_turn, kernel_after}
use Rattle.bd_revoke.proofs.NextSteps.{next-waits}
use Rattle.bd_revoke.proofs.tests.wait.Goals as goal

pub step-requires-clause-on : goal.step-requires-clause-on
step-requires-clause-on g c =
    subst (λ (o : Option Key). IfSome o (KeyIs IsOn (g.T.KernelSide.kernel c.args.tables.now)))
    (sym (λ i. first_to_clear (c.requires.to_post i) (c.requires.to_clear i))) tt

pub returns-clause-revocation : goal.returns-clause-revocation
returns-clause-revocation g c =
    let waits = c.step.ensures.turn ∙ next-waits _ _ c.args.revoke.now.waiting _ c.requires.to_post c.requires.to_clear in
    c.step.ensures.revocation ∙ ap (after_turn c.args.revoke.now) waits

pub returns-clause-kernel : goal.returns-clause-kernel
returns-clause-kernel g c =
    let waits = c.step.ensures.turn ∙ next-waits _ _ c.args.revoke.now.waiting _ c.requires.to_post c.requires.to_clear in
    c.step.ensures.kernel ∙ ap (λ (t : RevokeTurn). kernel_after t (g.T.KernelSide.kernel c.args.tables.now)) waits
