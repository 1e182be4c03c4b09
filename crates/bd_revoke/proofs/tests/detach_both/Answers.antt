-- The second key stays cleared and waits while the first is detached.
use Rattle.std.proofs.Common.{◌≡◌, [], ◌∷◌, List, arith, ap, sym, ◌∙◌, subst}
use Rattle.std.specs.Prelude.{Contains}
use Rattle.bd_base.specs.declared.key.Key.{Key}
use Rattle.bd_tables.specs.Kernel.{IsCleared, KernelState, KeyIs}
use Rattle.bd_tables.proofs.TwoKeys.{other-detached, processes_apart}
use Rattle.bd_revoke.specs.Revocation.{Revocation, without}
use Rattle.bd_revoke.proofs.NextSteps.{first-among, only-among, without-first}
use Rattle.bd_revoke.proofs.tests.detach_both.Goals as goal

pub detached-requires : goal.detached-requires
detached-requires g c =
    subst (λ (keys : List Key). Contains keys c.args.first.now) (sym c.requires.waiting) (first-among c.args.first.now c.args.second.now)

pub invalidate-drained-requires : goal.invalidate-drained-requires
invalidate-drained-requires g c =
    let first = c.args.first.now in
    let second = c.args.second.now in
    subst (λ (kernel : KernelState). KeyIs IsCleared kernel second) (sym (c.invalidate.ensures c.in-Yes.is))
    (other-detached (g.T.KernelSide.kernel c.args.tables.now) first second IsCleared
    (processes_apart second first (λ same. omega (arith, same, c.requires.differ))) c.requires.second)

pub detached-requires-in-Yes : goal.detached-requires-in-Yes
detached-requires-in-Yes g c =
    let first = c.args.first.now in
    let second = c.args.second.now in
    let left = ap (λ (r : Revocation). r.waiting) c.detached.ensures ∙ ap (without first) c.requires.waiting ∙ without-first first (second ∷ []) in
    subst (λ (keys : List Key). Contains keys second) (sym left) (only-among second)
