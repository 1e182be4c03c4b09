use Rattle.std.proofs.Common.{◌≡◌, ◌<◌, refl, sym, subst, ◌∙◌}
use Rattle.bd_queue_pair.specs.declared.queue_pair.TheConstants.{DEPTH}
use Rattle.bd_queue_pair.specs.Queues.{Queues, outstanding, outstanding_of}
use Rattle.bd_queue_pair.specs.Rings.{queues}
use Rattle.bd_queue_pair.proofs.Apart.{apart-submitted}
use Rattle.bd_queue_pair.proofs.queue_pair.QueuePair.submit.Goals as goal

pub invariant_of-self : goal.invariant_of-self
invariant_of-self c =
    let HasRoom : Queues → Type 0 = λ q. outstanding q < DEPTH in
    let IsUnused : Queues → Type 0 = λ q. outstanding_of q c.args.c.piece ≡ 0 in
    let room : HasRoom (queues c.self.inside) = subst HasRoom (sym c.self.view_is) c.requires.room in
    let unused : IsUnused (queues c.self.inside) = subst IsUnused (sym c.self.view_is) c.requires.piece in
    record {
      submitted = c.put_back.ensures.capacity ∙ c.self.invariant.submitted;
      in_hand = c.self.invariant.in_hand;
      completed = c.self.invariant.completed;
      apart = apart-submitted (queues c.self.inside) _ c.args.c c.put_back.ensures.items refl refl room unused c.self.invariant.apart;
    }

pub returns-clause-apart : goal.returns-clause-apart
returns-clause-apart c = (invariant_of-self c).apart
