use Rattle.std.proofs.Common.{◌≡◌, ◌++◌}
use Rattle.std.specs.List.{flat_map, range_with_len}
use Rattle.bd_report.specs.Reports.{call_line}
use Rattle.bd_report.proofs.reporting.push_process.Given as goal

-- the lines of the calls so far were appended
abbrev pub invariant-loop-call_number : goal.invariant-loop-call_number
invariant-loop-call_number l =
    l.text.items ≡ l.initial.text.items ++ flat_map (call_line l.basis.script.now l.basis.journal.now l.number) (range_with_len 0 l.call_number)
