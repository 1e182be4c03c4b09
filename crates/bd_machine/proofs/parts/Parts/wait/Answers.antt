use Rattle.std.proofs.Common.{Some, ◌∙◌, subst}
use Rattle.bd_kernel.specs.declared.blocker.Blocker.{Blocker}
use Rattle.bd_machine.specs.Turns.{IsNextBlocker}
use Rattle.bd_machine.proofs.ProcessorWaits.{wait_free, wait_held}
use Rattle.bd_machine.proofs.parts.Parts.wait.Goals as goal

pub returns-in_err-blocker : goal.returns-in_err-blocker
returns-in_err-blocker g c =
    c.from_residual.ensures ∙ wait_free c.args.script.now c.args.self.now g.m c.args.p c.requires.1.1.1.0 c.in_err-blocker.ensures.blocker

pub returns-in-Holder : goal.returns-in-Holder
returns-in-Holder g c =
    wait_held g.m c.args.p c.in-Holder.file c.in-Holder.holder
    (subst (λ (b : Blocker). IsNextBlocker g.m c.args.p (Some b)) c.in-Holder.is c.in_ok-blocker.ensures.blocker)
