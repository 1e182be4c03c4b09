use Rattle.std.proofs.Common.{refl, ◌∙◌, arith}
use Rattle.bd_queue_pair.specs.Rings.{queues}
use Rattle.bd_queue_pair.proofs.Apart.{apart-taken}
use Rattle.bd_queue_pair.proofs.queue_pair.QueuePair.take.Goals as goal

pub invariant_of-self : goal.invariant_of-self
invariant_of-self c =
    let taken = c.take_front-taken in
    record {
      submitted = taken.ensures.capacity ∙ c.self.invariant.submitted;
      in_hand = omega (arith, c.self.invariant.in_hand, c.push_within.ensures.capacity);
      completed = c.self.invariant.completed;
      apart = apart-taken (queues c.self.inside) _ taken.result taken.ensures.items c.push_within.ensures.items refl c.self.invariant.apart;
    }

pub returns-clause-apart : goal.returns-clause-apart
returns-clause-apart c = (invariant_of-self c).apart
