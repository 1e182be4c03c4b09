-- The commands of a queue pair and their completions.
use Rattle.std.specs.Prelude.{ℕ, ◌+◌, ◌≤◌, ◌==◌, List, [], count_by, filter, length, not}
use Rattle.bd_queue_pair.specs.declared.command.Command.{Command}
use Rattle.bd_queue_pair.specs.declared.command.Done.{Done}
use Rattle.bd_queue_pair.specs.declared.queue_pair.TheConstants.{DEPTH}

-- the commands submitted and not taken, those taken and not completed, and the completions not polled, each in order
pub record Queues : Type 0 where
  pub submitted : List Command
  pub in_hand : List Command
  pub completed : List Done

-- no command at all
abbrev pub no_commands : Queues
no_commands = record { submitted = []; in_hand = []; completed = [] }

-- how many commands are outstanding: submitted, and their completion not polled
abbrev pub outstanding : Queues → ℕ
outstanding q = length q.submitted + length q.in_hand + length q.completed

-- how many commands in hand have this piece number
abbrev pub in_hand_of : Queues → ℕ → ℕ
in_hand_of q piece = count_by (λ c. c.piece == piece) q.in_hand

-- how many outstanding commands have this piece number
abbrev pub outstanding_of : Queues → ℕ → ℕ
outstanding_of q piece =
    count_by (λ c. c.piece == piece) q.submitted + in_hand_of q piece + count_by (λ d. d.piece == piece) q.completed

-- the commands but for those with this piece number
abbrev pub without_piece : ℕ → List Command → List Command
without_piece piece commands = filter (λ c. not (c.piece == piece)) commands

-- the commands in hand but for that with this piece number
abbrev pub others_in_hand : Queues → ℕ → List Command
others_in_hand q piece = without_piece piece q.in_hand

-- not too many commands are outstanding, and no two of them have the same piece number
pub record AreApart (q : Queues) : Type 0 where
  pub few : outstanding q ≤ DEPTH
  pub different : (piece : ℕ) → outstanding_of q piece ≤ 1
