use Rattle.std.proofs.Common.{◌≡◌, ◌++◌}
use Rattle.std.specs.List.{flat_map, range_with_len}
use Rattle.bd_report.specs.Reports.{process_lines}
use Rattle.bd_report.proofs.reporting.report.Given as goal

-- the lines of the processes so far were appended
abbrev pub invariant-loop-number : goal.invariant-loop-number
invariant-loop-number l =
    l.text.items ≡ l.initial.text.items ++ flat_map (process_lines l.script l.journal) (range_with_len 0 l.number)
