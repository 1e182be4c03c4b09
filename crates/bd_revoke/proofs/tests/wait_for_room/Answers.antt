-- The key is cleared, and to be posted until there is room.
use Rattle.std.proofs.Common.{◌≡◌, arith, ap, sym, ◌∙◌, subst}
use Rattle.std.specs.Prelude.{Option, IfSome, slice_get}
use Rattle.bd_base.specs.declared.key.Key.{Key}
use Rattle.bd_tables.specs.Kernel.{IsOn, KeyIs}
use Rattle.bd_revoke.specs.Revocation.{Revocation, key_to_clear, left_of}
use Rattle.bd_revoke.specs.Turns.{after_turn}
use Rattle.bd_revoke.proofs.NextSteps.{cleared}
use Rattle.bd_revoke.proofs.tests.wait_for_room.Goals as goal

pub step-cleared-requires-clause-open : goal.step-cleared-requires-clause-open
step-cleared-requires-clause-open g c = omega (arith, ap left_of c.requires.key)

pub step-cleared-requires-clause-on : goal.step-cleared-requires-clause-on
step-cleared-requires-clause-on g c =
    subst (λ (o : Option Key). IfSome o (KeyIs IsOn (g.T.KernelSide.kernel c.args.tables.now))) (sym (ap key_to_clear c.requires.key)) c.requires.on

pub step-requires-clause-open : goal.step-requires-clause-open
step-requires-clause-open g c =
    let r = c.args.revoke.now in
    let key = c.args.key.now in
    let next = ap (λ (q : Revocation). slice_get q.to_clear 0) c.requires.key in
    let none = ap (λ (q : Revocation). q.to_post) c.requires.key in
    let middle = cleared r key next none _ _ c.step-cleared.ensures.turn _ c.step-cleared.ensures.revocation in
    omega (arith, ap left_of middle)

pub step-requires-clause-on : goal.step-requires-clause-on
step-requires-clause-on g c =
    let r = c.args.revoke.now in
    let key = c.args.key.now in
    let next = ap (λ (q : Revocation). slice_get q.to_clear 0) c.requires.key in
    let none = ap (λ (q : Revocation). q.to_post) c.requires.key in
    let middle = cleared r key next none _ _ c.step-cleared.ensures.turn _ c.step-cleared.ensures.revocation in
    subst (λ (o : Option Key). IfSome o (KeyIs IsOn (g.T.KernelSide.kernel c.step-cleared.new.tables))) (sym (ap key_to_clear middle)) tt

pub step-requires-in-QueueFull-clause-open : goal.step-requires-in-QueueFull-clause-open
step-requires-in-QueueFull-clause-open g c =
    let r = c.args.revoke.now in
    let key = c.args.key.now in
    let next = ap (λ (q : Revocation). slice_get q.to_clear 0) c.requires.key in
    let none = ap (λ (q : Revocation). q.to_post) c.requires.key in
    let middle = cleared r key next none _ _ c.step-cleared.ensures.turn _ c.step-cleared.ensures.revocation in
    let waits = c.step.ensures.revocation ∙ ap (after_turn c.step-cleared.new.self) c.in-QueueFull.is ∙ middle in
    omega (arith, ap left_of waits)

pub step-requires-in-QueueFull-clause-on : goal.step-requires-in-QueueFull-clause-on
step-requires-in-QueueFull-clause-on g c =
    let r = c.args.revoke.now in
    let key = c.args.key.now in
    let next = ap (λ (q : Revocation). slice_get q.to_clear 0) c.requires.key in
    let none = ap (λ (q : Revocation). q.to_post) c.requires.key in
    let middle = cleared r key next none _ _ c.step-cleared.ensures.turn _ c.step-cleared.ensures.revocation in
    let waits = c.step.ensures.revocation ∙ ap (after_turn c.step-cleared.new.self) c.in-QueueFull.is ∙ middle in
    subst (λ (o : Option Key). IfSome o (KeyIs IsOn (g.T.KernelSide.kernel c.step.new.tables))) (sym (ap key_to_clear waits)) tt
