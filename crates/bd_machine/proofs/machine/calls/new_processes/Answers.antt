use Rattle.std.proofs.Common.{ℕ, ◌+◌, [], ◌∷◌, All, sym, ap, ◌∙◌, subst, length}
use Rattle.std.proofs.lemmas.List.{length-append}
use Rattle.std.proofs.lemmas.List.Elements.{All-push}
use Rattle.bd_machine.specs.Booted.{IsNew}
use Rattle.bd_machine.proofs.machine.calls.new_processes.Goals as goal

pub loop-process-preserved : goal.loop-process-preserved
loop-process-preserved g c = (
  ap length c.in_ok-push.ensures.items ∙ length-append c.loop-process.processes.items (c.in_ok-new.field-0 ∷ [])
      ∙ ap (λ (n : ℕ). n + 1) c.loop-process.invariant.0,
  subst (All IsNew) (sym c.in_ok-push.ensures.items)
      (All-push IsNew c.loop-process.processes.items c.in_ok-new.field-0 c.loop-process.invariant.1
      (record {
        ended = c.in_ok-new.ensures.ended;
        used = c.in_ok-new.ensures.used;
        call = c.in_ok-new.ensures.call;
        queue = c.in_ok-new.ensures.queue;
        hand = c.in_ok-new.ensures.hand;
        pass = c.in_ok-new.ensures.pass;
      })),
)
