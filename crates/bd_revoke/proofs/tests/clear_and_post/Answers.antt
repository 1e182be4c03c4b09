-- A key is cleared, and then there is room to post it.
use Rattle.std.proofs.Common.{◌≡◌, ◌++◌, [], ◌∷◌, length, length-append, arith, ap, sym, ◌∙◌, subst}
use Rattle.std.specs.Prelude.{Option, IfSome}
use Rattle.bd_base.specs.declared.key.Key.{Key}
use Rattle.bd_inval.specs.declared.inval.Post.{Post}
use Rattle.bd_tables.specs.Kernel.{IsOn, KernelState, KeyIs}
use Rattle.bd_revoke.specs.declared.turn.RevokeTurn.{RevokeTurn}
use Rattle.bd_revoke.specs.Revocation.{Revocation, key_to_clear, left_of}
use Rattle.bd_revoke.specs.Turns.{kernel_after, posts_of}
use Rattle.bd_revoke.proofs.NextSteps.{clear_is_next, cleared, first-some, it_clears, it_posts, nothing_posted, posted}
use Rattle.bd_revoke.proofs.tests.clear_and_post.Goals as goal

pub step-cleared-requires-clause-open : goal.step-cleared-requires-clause-open
step-cleared-requires-clause-open g c = omega (arith, first-some c.args.revoke.now.to_clear c.args.key.now c.requires.next)

pub step-cleared-requires-clause-on : goal.step-cleared-requires-clause-on
step-cleared-requires-clause-on g c =
    subst (λ (o : Option Key). IfSome o (KeyIs IsOn (g.T.KernelSide.kernel c.args.tables.now)))
    (sym (clear_is_next c.args.revoke.now c.args.key.now c.requires.next c.requires.none)) c.requires.on

pub step-posted-requires-clause-open : goal.step-posted-requires-clause-open
step-posted-requires-clause-open g c =
    let r = c.args.revoke.now in
    let key = c.args.key.now in
    let middle = cleared r key c.requires.next c.requires.none _ _ c.step-cleared.ensures.turn _ c.step-cleared.ensures.revocation in
    omega (arith, ap left_of middle)

pub step-posted-requires-clause-on : goal.step-posted-requires-clause-on
step-posted-requires-clause-on g c =
    let r = c.args.revoke.now in
    let key = c.args.key.now in
    let middle = cleared r key c.requires.next c.requires.none _ _ c.step-cleared.ensures.turn _ c.step-cleared.ensures.revocation in
    subst (λ (o : Option Key). IfSome o (KeyIs IsOn (g.T.KernelSide.kernel c.step-cleared.new.tables))) (sym (ap key_to_clear middle)) tt

pub returns-clause-cleared : goal.returns-clause-cleared
returns-clause-cleared g c =
    it_clears c.args.revoke.now c.args.key.now c.requires.next c.requires.none _ _ c.step-cleared.ensures.turn

pub returns-clause-posted : goal.returns-clause-posted
returns-clause-posted g c =
    let r = c.args.revoke.now in
    let key = c.args.key.now in
    let middle = cleared r key c.requires.next c.requires.none _ _ c.step-cleared.ensures.turn _ c.step-cleared.ensures.revocation in
    let room = nothing_posted r key c.requires.next c.requires.none _ _ c.step-cleared.ensures.turn _ _ c.step-cleared.ensures.posts in
    let posts = it_posts r key c.requires.next c.requires.none _ middle _ _ (omega (arith, room, c.requires.room)) c.step-posted.ensures.turn in
    posts

pub returns-clause-to_clear : goal.returns-clause-to_clear
returns-clause-to_clear g c =
    let r = c.args.revoke.now in
    let key = c.args.key.now in
    let middle = cleared r key c.requires.next c.requires.none _ _ c.step-cleared.ensures.turn _ c.step-cleared.ensures.revocation in
    let room = nothing_posted r key c.requires.next c.requires.none _ _ c.step-cleared.ensures.turn _ _ c.step-cleared.ensures.posts in
    let posts = it_posts r key c.requires.next c.requires.none _ middle _ _ (omega (arith, room, c.requires.room)) c.step-posted.ensures.turn in
    ap (λ (r : Revocation). r.to_clear) (posted r key c.requires.next c.requires.none _ middle _ posts _ c.step-posted.ensures.revocation)

pub returns-clause-to_post : goal.returns-clause-to_post
returns-clause-to_post g c =
    let r = c.args.revoke.now in
    let key = c.args.key.now in
    let middle = cleared r key c.requires.next c.requires.none _ _ c.step-cleared.ensures.turn _ c.step-cleared.ensures.revocation in
    let room = nothing_posted r key c.requires.next c.requires.none _ _ c.step-cleared.ensures.turn _ _ c.step-cleared.ensures.posts in
    let posts = it_posts r key c.requires.next c.requires.none _ middle _ _ (omega (arith, room, c.requires.room)) c.step-posted.ensures.turn in
    ap (λ (r : Revocation). r.to_post) (posted r key c.requires.next c.requires.none _ middle _ posts _ c.step-posted.ensures.revocation)

pub returns-clause-waiting : goal.returns-clause-waiting
returns-clause-waiting g c =
    let r = c.args.revoke.now in
    let key = c.args.key.now in
    let middle = cleared r key c.requires.next c.requires.none _ _ c.step-cleared.ensures.turn _ c.step-cleared.ensures.revocation in
    let room = nothing_posted r key c.requires.next c.requires.none _ _ c.step-cleared.ensures.turn _ _ c.step-cleared.ensures.posts in
    let posts = it_posts r key c.requires.next c.requires.none _ middle _ _ (omega (arith, room, c.requires.room)) c.step-posted.ensures.turn in
    ap (λ (r : Revocation). r.waiting) (posted r key c.requires.next c.requires.none _ middle _ posts _ c.step-posted.ensures.revocation)

pub returns-clause-posts : goal.returns-clause-posts
returns-clause-posts g c =
    let r = c.args.revoke.now in
    let key = c.args.key.now in
    let middle = cleared r key c.requires.next c.requires.none _ _ c.step-cleared.ensures.turn _ c.step-cleared.ensures.revocation in
    let room = nothing_posted r key c.requires.next c.requires.none _ _ c.step-cleared.ensures.turn _ _ c.step-cleared.ensures.posts in
    let posts = it_posts r key c.requires.next c.requires.none _ middle _ _ (omega (arith, room, c.requires.room)) c.step-posted.ensures.turn in
    let told = c.step-posted.ensures.posts ∙ ap (λ (t : RevokeTurn). c.step-cleared.new.inval ++ posts_of t c.step-cleared.new.self.by) posts in
    omega (arith, room, ap length told, length-append {A = Post})

pub returns-clause-kernel : goal.returns-clause-kernel
returns-clause-kernel g c =
    let r = c.args.revoke.now in
    let key = c.args.key.now in
    let middle = cleared r key c.requires.next c.requires.none _ _ c.step-cleared.ensures.turn _ c.step-cleared.ensures.revocation in
    let room = nothing_posted r key c.requires.next c.requires.none _ _ c.step-cleared.ensures.turn _ _ c.step-cleared.ensures.posts in
    let posts = it_posts r key c.requires.next c.requires.none _ middle _ _ (omega (arith, room, c.requires.room)) c.step-posted.ensures.turn in
    c.step-posted.ensures.kernel
    ∙ ap (λ (t : RevokeTurn). kernel_after t (g.T.KernelSide.kernel c.step-cleared.new.tables)) posts
    ∙ c.step-cleared.ensures.kernel
    ∙ ap (λ (t : RevokeTurn). kernel_after t (g.T.KernelSide.kernel c.args.tables.now))
    (it_clears r key c.requires.next c.requires.none _ _ c.step-cleared.ensures.turn)
