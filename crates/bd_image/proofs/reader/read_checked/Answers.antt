use Rattle.std.proofs.Common.{arith}
use Rattle.bd_image.specs.Rules.{BlockCount, ExtentCount, ExtentRange}
use Rattle.bd_image.proofs.RuleOrder.{has_records}
use Rattle.bd_image.proofs.reader.read_checked.Goals as goal

pub read_files-requires-clause-image : goal.read_files-requires-clause-image
read_files-requires-clause-image c = has_records c.args.bytes.now 20 (omega arith) (λ q _. c.in_ok-check_rules.ensures.ok q)

pub read_files-requires-clause-total : goal.read_files-requires-clause-total
read_files-requires-clause-total c = c.in_ok-check_rules.ensures.ok BlockCount

pub read_files-requires-clause-counts : goal.read_files-requires-clause-counts
read_files-requires-clause-counts c = c.in_ok-check_rules.ensures.ok ExtentCount

pub read_files-requires-clause-ranges : goal.read_files-requires-clause-ranges
read_files-requires-clause-ranges c = c.in_ok-check_rules.ensures.ok ExtentRange
