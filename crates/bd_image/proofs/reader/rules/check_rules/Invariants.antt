use Rattle.std.proofs.Common.{◌+◌}
use Rattle.bd_image.specs.Refusals.{ObeysBelow}
use Rattle.bd_image.proofs.reader.rules.check_rules.Given as goal

-- the image meets the rules so far
abbrev pub invariant-loop-rule : goal.invariant-loop-rule
invariant-loop-rule l = ObeysBelow l.bytes (l.rule-index + 1)
