-- No engine is in the key.
use Rattle.std.proofs.Common.{◌≡◌, sym, subst, arith}
use Rattle.bd_tables.specs.Kernel.{IsCleared, KeyIs}
use Rattle.bd_tables.specs.Kept.{IsKept, state_inside}
use Rattle.bd_tables.specs.Plain.{PlainState, kernel_of, walks_of}
use Rattle.bd_tables.specs.State.{Rights, engines_in}
use Rattle.bd_tables.proofs.Kept.{mirror-at}
use Rattle.bd_tables.proofs.KeptPlain.{kept-drain}
use Rattle.bd_tables.proofs.plain.kernel.PlainTablesKernelSide.drained.Goals as goal

pub invariant_of-self : goal.invariant_of-self
invariant_of-self c =
    let plain : PlainState = state_inside c.self.inside in
    let cleared = subst (λ (plain : PlainState). KeyIs IsCleared (kernel_of plain) c.args.key) (sym c.self.view_is) c.requires in
    let mirror = mirror-at plain.rights plain.book plain.places c.self.inside.directory c.self.invariant.mirrored c.args.key c.set_state.ensures.key in
    let nobody : engines_in (walks_of plain.places) c.args.key ≡ 0 = omega (arith, mirror.count, c.count-count.ensures, c.if-count-gt0.false) in
    subst (λ (rights : Rights). IsKept (record plain { rights = rights }) c.self.inside.directory) (sym c.set_state.ensures.state)
    (kept-drain plain c.self.inside.directory c.self.invariant c.args.key c.set_state.ensures.key cleared nobody)
