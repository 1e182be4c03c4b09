-- The second key is still On after the first was revoked.
use Rattle.std.proofs.Common.{sym, subst}
use Rattle.bd_tables.specs.Kernel.{IsOn, KernelState, KeyIs}
use Rattle.bd_tables.proofs.TwoKeys.{other-detached, processes_apart}
use Rattle.bd_tables.proofs.tests.fragments.revoke_both.Goals as goal

pub revoke-drained-requires : goal.revoke-drained-requires
revoke-drained-requires g c =
    let first = c.args.first.now in
    let second = c.args.second.now in
    subst (λ (kernel : KernelState). KeyIs IsOn kernel second) (sym (c.revoke.ensures.revoked c.in-Yes.is))
    (other-detached (g.T.KernelSide.kernel c.args.tables.now) first second IsOn
    (processes_apart second first (λ same. c.requires.differ (sym same))) c.requires.second)
