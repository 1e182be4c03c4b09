-- The right does not show any more.
use Rattle.std.proofs.Common.{sym, subst}
use Rattle.bd_directory.specs.Entries.{EntryList}
use Rattle.bd_tables.specs.declared.state.RightState.TheVariants.{Cleared}
use Rattle.bd_tables.specs.Effects.{with_state}
use Rattle.bd_tables.specs.Kernel.{IsOn, KeyIs}
use Rattle.bd_tables.specs.Kept.{IsKept, state_inside}
use Rattle.bd_tables.specs.Plain.{PlainState, kernel_of}
use Rattle.bd_tables.specs.State.{Rights}
use Rattle.bd_tables.proofs.KeptPlain.{kept-clear}
use Rattle.bd_tables.proofs.plain.kernel.PlainTablesKernelSide.clear.Goals as goal

pub invariant_of-self : goal.invariant_of-self
invariant_of-self c =
    let plain : PlainState = state_inside c.self.inside in
    let on = subst (λ (plain : PlainState). KeyIs IsOn (kernel_of plain) c.args.key) (sym c.self.view_is) c.requires in
    subst (λ (rights : Rights). IsKept (record plain { rights = rights }) c.clear.new.self) (sym c.set_state.ensures.state)
    (subst (λ (directory : EntryList). IsKept (record plain { rights = with_state plain.rights c.args.key Cleared }) directory) (sym c.clear.ensures)
    (kept-clear plain c.self.inside.directory c.self.invariant c.args.key c.set_state.ensures.key on))
