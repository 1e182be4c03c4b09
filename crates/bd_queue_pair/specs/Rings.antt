-- How a queue pair keeps its commands and completions.
use Rattle.std.specs.Prelude.{◌≡◌, ◌≤◌, vec_capacity}
use Rattle.bd_queue_pair.specs.Queues.{Queues, AreApart}
use Rattle.bd_queue_pair.specs.declared.queue_pair.QueuePair.TheInside.{Inside}
use Rattle.bd_queue_pair.specs.declared.queue_pair.TheConstants.{DEPTH}

-- the commands and completions that are kept
abbrev pub queues : Inside → Queues
queues a = record { submitted = a.submitted.items; in_hand = a.in_hand.items; completed = a.completed.items }

-- there is room for all that may be outstanding
pub record HaveRoom (a : Inside) : Type 0 where
  pub submitted : a.submitted.capacity ≡ DEPTH
  pub in_hand : DEPTH ≤ vec_capacity a.in_hand
  pub completed : a.completed.capacity ≡ DEPTH
  pub apart : AreApart (queues a)
