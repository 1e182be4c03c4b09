-- Two keys are cleared and posted.
use Rattle.std.proofs.Common.{◌≡◌, [], ◌∷◌, ◌++◌, List, length, drop, arith, ap, sym, ◌∙◌, subst}
use Rattle.std.specs.Prelude.{slice_get}
use Rattle.bd_base.specs.declared.key.Key.{Key}
use Rattle.bd_inval.specs.declared.inval.Post.{Post}
use Rattle.bd_tables.specs.declared.state.RightState.TheVariants.{Cleared}
use Rattle.bd_tables.specs.Kernel.{IsCleared, IsOn, KernelState, KeyIs}
use Rattle.bd_tables.proofs.Sweeps.{on-cleared}
use Rattle.bd_tables.proofs.TwoKeys.{other-in_state, processes_apart}
use Rattle.bd_revoke.specs.Revocation.{Revocation}
use Rattle.bd_revoke.proofs.tests.post_both.Goals as goal

pub clear_and_post-first-requires-clause-next : goal.clear_and_post-first-requires-clause-next
clear_and_post-first-requires-clause-next g c = ap (λ (r : Revocation). slice_get r.to_clear 0) c.requires.keys

pub clear_and_post-first-requires-clause-none : goal.clear_and_post-first-requires-clause-none
clear_and_post-first-requires-clause-none g c = ap (λ (r : Revocation). r.to_post) c.requires.keys

pub clear_and_post-first-requires-clause-room : goal.clear_and_post-first-requires-clause-room
clear_and_post-first-requires-clause-room g c = omega (arith, ap (λ (posts : List Post). length posts) c.requires.room)

pub clear_and_post-second-requires-clause-next : goal.clear_and_post-second-requires-clause-next
clear_and_post-second-requires-clause-next g c =
    ap (λ (keys : List Key). slice_get keys 0)
    (c.clear_and_post-first.ensures.to_clear ∙ ap (λ (r : Revocation). drop 1 r.to_clear) c.requires.keys)

pub clear_and_post-second-requires-clause-room : goal.clear_and_post-second-requires-clause-room
clear_and_post-second-requires-clause-room g c =
    omega (arith, ap (λ (posts : List Post). length posts) c.requires.room, c.clear_and_post-first.ensures.posts)

pub clear_and_post-second-requires-clause-on : goal.clear_and_post-second-requires-clause-on
clear_and_post-second-requires-clause-on g c =
    let first = c.args.first.now in
    let second = c.args.second.now in
    subst (λ (kernel : KernelState). KeyIs IsOn kernel second) (sym c.clear_and_post-first.ensures.kernel)
    (other-in_state (g.T.KernelSide.kernel c.args.tables.now) first second IsOn
    (processes_apart second first (λ same. omega (arith, same, c.requires.differ))) c.requires.second Cleared)

pub wait-requires-clause-to_clear : goal.wait-requires-clause-to_clear
wait-requires-clause-to_clear g c =
    c.clear_and_post-second.ensures.to_clear
    ∙ ap (drop 1) (c.clear_and_post-first.ensures.to_clear ∙ ap (λ (r : Revocation). drop 1 r.to_clear) c.requires.keys)

waiting : (first second : Key) (r r1 r2 : List Key) → r ≡ [] → r1 ≡ r ++ first ∷ [] → r2 ≡ r1 ++ second ∷ [] → r2 ≡ first ∷ second ∷ []
waiting first second r r1 r2 none one two =
    two ∙ ap (λ (keys : List Key). keys ++ second ∷ []) (one ∙ ap (λ (keys : List Key). keys ++ first ∷ []) none)

pub wait-requires-clause-some : goal.wait-requires-clause-some
wait-requires-clause-some g c =
    let both = waiting c.args.first.now c.args.second.now _ _ _ (ap (λ (r : Revocation). r.waiting) c.requires.keys)
    c.clear_and_post-first.ensures.waiting c.clear_and_post-second.ensures.waiting in
    omega (arith, ap (λ (keys : List Key). length keys) both)

pub returns-clause-waiting : goal.returns-clause-waiting
returns-clause-waiting g c =
    ap (λ (r : Revocation). r.waiting) c.wait.ensures.revocation
    ∙ waiting c.args.first.now c.args.second.now _ _ _ (ap (λ (r : Revocation). r.waiting) c.requires.keys)
    c.clear_and_post-first.ensures.waiting c.clear_and_post-second.ensures.waiting

pub returns-clause-first : goal.returns-clause-first
returns-clause-first g c =
    let first = c.args.first.now in
    let second = c.args.second.now in
    let cleared = subst (λ (kernel : KernelState). KeyIs IsCleared kernel first) (sym c.clear_and_post-first.ensures.kernel)
    (on-cleared (g.T.KernelSide.kernel c.args.tables.now) first c.requires.first) in
    subst (λ (kernel : KernelState). KeyIs IsCleared kernel first) (sym (c.wait.ensures.kernel ∙ c.clear_and_post-second.ensures.kernel))
    (other-in_state (g.T.KernelSide.kernel c.clear_and_post-first.new.tables) second first IsCleared
    (processes_apart first second (λ same. omega (arith, same, c.requires.differ))) cleared Cleared)

pub returns-clause-second : goal.returns-clause-second
returns-clause-second g c =
    let first = c.args.first.now in
    let second = c.args.second.now in
    let on = subst (λ (kernel : KernelState). KeyIs IsOn kernel second) (sym c.clear_and_post-first.ensures.kernel)
    (other-in_state (g.T.KernelSide.kernel c.args.tables.now) first second IsOn
    (processes_apart second first (λ same. omega (arith, same, c.requires.differ))) c.requires.second Cleared) in
    subst (λ (kernel : KernelState). KeyIs IsCleared kernel second) (sym (c.wait.ensures.kernel ∙ c.clear_and_post-second.ensures.kernel))
    (on-cleared (g.T.KernelSide.kernel c.clear_and_post-first.new.tables) second on)
