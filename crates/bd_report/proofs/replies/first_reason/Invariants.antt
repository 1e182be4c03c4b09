use Rattle.std.proofs.Common.{◌≡◌, drop, map}
use Rattle.std.specs.Option.{option_copied}
use Rattle.bd_report.specs.Replies.{first_reason}
use Rattle.bd_report.proofs.replies.first_reason.Given as goal

-- what is left has the reason that all answers have
abbrev pub invariant-loop-answer : goal.invariant-loop-answer
invariant-loop-answer l =
    first_reason (map option_copied (drop l.answer-index l.answers)) ≡ first_reason (map option_copied l.answers)
