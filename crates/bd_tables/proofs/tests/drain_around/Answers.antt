-- The key is cleared, and stays so while the engine is in it.
use Rattle.std.proofs.Common.{sym, ◌∙◌, subst}
use Rattle.bd_tables.specs.Kernel.{IsCleared, KernelState, KeyIs}
use Rattle.bd_tables.specs.Plain.{kernel_of}
use Rattle.bd_tables.proofs.Sweeps.{on-cleared}
use Rattle.bd_tables.proofs.tests.drain_around.Goals as goal

pub drained-before-requires : goal.drained-before-requires
drained-before-requires g c =
    subst (λ (kernel : KernelState). KeyIs IsCleared kernel c.args.key.now) (sym c.clear.ensures.cleared)
    (on-cleared (kernel_of c.args.tables.now) c.args.key.now c.requires.on)

pub drained-requires : goal.drained-requires
drained-requires g c =
    let cleared = subst (λ (kernel : KernelState). KeyIs IsCleared kernel c.args.key.now) (sym c.clear.ensures.cleared)
    (on-cleared (kernel_of c.args.tables.now) c.args.key.now c.requires.on) in
    let stays = c.take_back.ensures.kernel ∙ c.retire-pass.ensures.kernel ∙ (c.drained-before.ensures.not_yet c.in-NotYet.count c.in-NotYet.is).1 in
    subst (λ (kernel : KernelState). KeyIs IsCleared kernel c.args.key.now) (sym stays) cleared
