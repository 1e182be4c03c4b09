use Rattle.std.proofs.Common.{◌≡◌, refl, sym, subst, ◌∙◌, arith}
use Rattle.bd_queue_pair.specs.Queues.{Queues, in_hand_of}
use Rattle.bd_queue_pair.specs.Rings.{queues}
use Rattle.bd_queue_pair.proofs.Apart.{apart-completed}
use Rattle.bd_queue_pair.proofs.queue_pair.QueuePair.complete.Goals as goal

pub invariant_of-self : goal.invariant_of-self
invariant_of-self c =
    let IsInHand : Queues → Type 0 = λ q. in_hand_of q c.args.d.piece ≡ 1 in
    let once : IsInHand (queues c.self.inside) = subst IsInHand (sym c.self.view_is) c.requires in
    let dropped = c.drop_piece.ensures in
    record {
      submitted = c.self.invariant.submitted;
      in_hand = omega (arith, c.self.invariant.in_hand, dropped.capacity);
      completed = c.put_back.ensures.capacity ∙ c.self.invariant.completed;
      apart = apart-completed (queues c.self.inside) _ c.args.d refl dropped.items c.put_back.ensures.items once c.self.invariant.apart;
    }

pub returns-clause-apart : goal.returns-clause-apart
returns-clause-apart c = (invariant_of-self c).apart
