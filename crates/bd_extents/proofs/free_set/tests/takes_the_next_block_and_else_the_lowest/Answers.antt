use Rattle.std.proofs.Common.{rules, arith}
use Rattle.std.specs.FinSet.{members}
use Rattle.bd_extents.proofs.free_set.tests.takes_the_next_block_and_else_the_lowest.Goals as goal

pub give_back-requires-clause-not_free : goal.give_back-requires-clause-not_free
give_back-requires-clause-not_free c = grind (members, rules)

pub give_back-requires-2-clause-not_free : goal.give_back-requires-2-clause-not_free
give_back-requires-2-clause-not_free c = grind (members, rules)
