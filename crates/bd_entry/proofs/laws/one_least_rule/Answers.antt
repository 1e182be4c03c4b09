use Rattle.bd_entry.proofs.RuleLaws.{numbers_differ, one_least_rule}
use Rattle.bd_entry.proofs.laws.one_least_rule.Goals as goal

pub returns-clause-numbers : goal.returns-clause-numbers
returns-clause-numbers c = numbers_differ

pub returns-clause-least : goal.returns-clause-least
returns-clause-least c = one_least_rule
