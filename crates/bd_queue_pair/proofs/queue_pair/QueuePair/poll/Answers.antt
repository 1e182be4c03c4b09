use Rattle.std.proofs.Common.{refl, ◌∙◌}
use Rattle.bd_queue_pair.specs.Rings.{queues}
use Rattle.bd_queue_pair.proofs.Apart.{apart-polled}
use Rattle.bd_queue_pair.proofs.queue_pair.QueuePair.poll.Goals as goal

pub invariant_of-self : goal.invariant_of-self
invariant_of-self c = record {
  submitted = c.self.invariant.submitted;
  in_hand = c.self.invariant.in_hand;
  completed = c.take_front.ensures.capacity ∙ c.self.invariant.completed;
  apart = apart-polled (queues c.self.inside) _ c.take_front.result refl refl c.take_front.ensures.items c.self.invariant.apart;
}

pub returns-clause-apart : goal.returns-clause-apart
returns-clause-apart c = (invariant_of-self c).apart
